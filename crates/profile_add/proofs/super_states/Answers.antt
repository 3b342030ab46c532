-- `super_states` meets its contract: the offsets on the contig are counted from their two ends.
use Rattle.activity_profile.proofs.Adds.{clips_is}
use Rattle.activity_profile.specs.Add.{super_states}
use Rattle.profile_add.proofs.super_states.Goals as goal

pub returns-in-Plain : goal.returns-in-Plain
unfolding super_states
returns-in-Plain c = simp c.in-Plain.is

pub returns-in-HighQualitySoftClips : goal.returns-in-HighQualitySoftClips
returns-in-HighQualitySoftClips c =
    simp (c.lesser-high.ensures, c.greater-low.ensures, c.monus.ensures, c.lesser-n.ensures, c.from-q.ensures, c.from.ensures, c.from-in-HighQualitySoftClips.ensures, c.from-in-HighQualitySoftClips-2.ensures, c.from-in-HighQualitySoftClips-3.ensures, c.in-HighQualitySoftClips.is)
    (clips_is c.args.p _ _ c.requires.0 c.requires.1)
