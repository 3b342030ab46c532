-- `fill` meets its contract: accepted settings leave room for each kernel.
use Rattle.std.proofs.Common.{length, arith}
use Rattle.band_pass_kernel.proofs.Kernels.{Accepted, accepted_is, take_written}
use Rattle.band_pass_kernel.proofs.BandPassActivityProfileParams.fill.Goals as goal
use Rattle.band_pass_kernel.proofs.BandPassActivityProfileParams.fill.Goals.{Start}

ok : (c : Start) → Accepted c.args.self (length c.args.full.now) (length c.args.narrow.now)
ok c = accepted_is _ _ _ c.requires

pub write_kernel-requires : goal.write_kernel-requires
write_kernel-requires c = (ok (goal.at.write_kernel-requires c).Start).first

pub filter_size-filter_size-requires : goal.filter_size-filter_size-requires
filter_size-filter_size-requires c =
    record { kernel = rw c.write_kernel.ensures (take_written c.args.full.now c.args.self.max_filter_size c.args.self.sigma); few = (ok (goal.at.filter_size-filter_size-requires c).Start).few }

pub write_kernel-requires-2 : goal.write_kernel-requires-2
write_kernel-requires-2 c =
    omega (arith, c.filter_size-filter_size.ensures.1, (ok (goal.at.write_kernel-requires-2 c).Start).second)
