-- `act` meets its contract by the place.
use Rattle.region_stream.proofs.act.Goals as goal

pub returns-in-Settings : goal.returns-in-Settings
returns-in-Settings c = c.before_loci.ensures _ _ _

pub returns-in-Loci : goal.returns-in-Loci
returns-in-Loci c = c.between_piles.ensures _ _ _
