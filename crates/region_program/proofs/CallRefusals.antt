-- Which refusals a making, an add, a pop and a setting can answer where the stream stands. Assumes nothing.
use mathlib.Core.Path.{◌≡◌, refl, sym, ap, subst, ◌∙◌}
use mathlib.Core.Bool.{Bool, true, false, cond, not, ◌||◌}
use mathlib.Core.List.{List}
use Prim.Native.Nat.{ℕ, zero, suc, ◌-◌, ◌≤◌}
use native.Mathlib.Omega.{arith}
use borrow.Author.Tests.{le-leb, leb-true}
use lib.Dec.{ltb, eqb}
use lib.ListN.{length}
use lib.Ieee.{Float}
use Rattle.lists.specs.Tests.{and_left, and_right}
use Rattle.numbers.specs.Ranges.{between}
use Rattle.genome.specs.Refusals.{Outcome, refused, answered}
use Rattle.genome.specs.Ranges.{is_position, max_position}
use Rattle.band_pass_kernel.specs.declared.BandPassActivityProfileParams.{BandPassActivityProfileParams}
use Rattle.band_pass_kernel.specs.Kernel.{band}
use Rattle.band_pass_kernel.specs.Resolve.{in_range as kernel_in_range, has_room, filter_size_of, resolution, max_distance, max_filter}
use Rattle.activity_profile.specs.declared.BandPassActivityProfile.{BandPassActivityProfile}
use Rattle.activity_profile.specs.declared.ActivityProfileState.{ActivityProfileState}
use Rattle.activity_profile.specs.Verdict.{Verdict, refusal, granted}
use Rattle.activity_profile.specs.Making.{making, made_of}
use Rattle.activity_profile.specs.Add.{broken_add, other_contig, off_contig, no_activity, not_next, needed, add_verdict}
use Rattle.activity_profile.specs.Pop.{PopAnswer, refused_pop, Turn, empty, held, ready, pop_verdict, turn, kept, pop_size, rest, pop_answer_by, pop_answer}
use Rattle.activity_profile.specs.Run.{after_pop}
use Rattle.activity_profile.proofs.Facts.{Whole}
use Rattle.activity_profile.proofs.Unbroken.{whole_not}
use Rattle.stream_settings.specs.declared.StreamSettings.{StreamSettings}
use Rattle.stream_settings.specs.Settings.{ranged_of, with_field}
use Rattle.region_program.specs.Program.{buffer_size}
use Rattle.region_program.specs.Reach.{Possible, setting, word, off_the_contig, not_the_next, too_few_cells, zero_size}

-- an add that is refused, of a record that is whole, on its own contig, of a probability
pub add_refused : (p : BandPassActivityProfile) (n k : ℕ) (x : ActivityProfileState) → broken_add p n k ≡ false → other_contig p x ≡ false → no_activity x ≡ false → (m : ℕ) → add_verdict p n k x ≡ refusal m → Possible m
unfolding add_verdict
add_refused p n k x a b c m = rw (a, b, c) (go (off_contig p x) (not_next p x) (ltb n (needed p x)))
  where
    of : (j : ℕ) → Possible j → refusal j ≡ refusal m → Possible m
    of j q e = subst Possible (let z : j ≡ m = cc in z) q

    go : (f g h : Bool) → cond f (refusal 7) (cond g (refusal 9) (cond h (refusal 10) granted)) ≡ refusal m → Possible m
    go true g h e = of 7 off_the_contig e
    go false true h e = of 9 not_the_next e
    go false false true e = of 10 too_few_cells e
    go false false false e = absurd (let z : ◌≡◌ {A = ℕ} 0 1 = cc in omega arith)

-- a filter that is in its range has room in the buffers
room : (s : BandPassActivityProfileParams) → kernel_in_range s ≡ true → has_room s buffer_size buffer_size ≡ true
unfolding kernel_in_range has_room
room s e =
    let few : s.max_filter_size ≤ max_filter = search (and_left, and_right, leb-true) depth 12 in
    rw (le-leb (band s.max_filter_size) buffer_size (omega arith))

pub making_refused : (len : ℕ) (s : BandPassActivityProfileParams) (n : ℕ) → making 0 len s buffer_size buffer_size ≡ refused n → Possible n
unfolding making resolution
making_refused len s n = go (is_position len) (kernel_in_range s) refl
  where
    of : (m : ℕ) → Possible m → ◌≡◌ {A = Outcome BandPassActivityProfile} (refused m) (refused n) → Possible n
    of m q e = subst Possible (let z : m ≡ n = cc in z) q

    roomy : (c : Bool) → has_room s buffer_size buffer_size ≡ c → c ≡ true → made_of 0 len s (cond (not c) (refused 2) (answered (filter_size_of s))) ≡ refused n → Possible n
    roomy true f g e = absurd (let z : ◌≡◌ {A = ℕ} 0 1 = cc in omega arith)
    roomy false f g e = absurd (let z : ◌≡◌ {A = ℕ} 0 1 = cc in omega arith)

    go : (a b : Bool) → kernel_in_range s ≡ b → cond a (made_of 0 len s (cond (not b) (refused 1) (cond (not (has_room s buffer_size buffer_size)) (refused 2) (answered (filter_size_of s))))) (refused 1) ≡ refused n → Possible n
    go true true f e = roomy (has_room s buffer_size buffer_size) refl (room s f) e
    go true false f e = of 1 setting e
    go false b f e = of 1 setting e

pub set_refused : (s : StreamSettings) (field v n : ℕ) → with_field s field v ≡ refused n → Possible n
unfolding with_field
set_refused s field v n = go (eqb field 1) (eqb field 2) (eqb field 3) (eqb field 4) (eqb field 5) (eqb field 6) _ _ _ _ _ _
  where
    of : (m : ℕ) → Possible m → ◌≡◌ {A = Outcome StreamSettings} (refused m) (refused n) → Possible n
    of m q e = subst Possible (let z : m ≡ n = cc in z) q

    ranged : (b : Bool) (u : StreamSettings) → cond b (answered u) (refused 1) ≡ refused n → Possible n
    ranged true u e = absurd (let z : ◌≡◌ {A = ℕ} 0 1 = cc in omega arith)
    ranged false u e = of 1 setting e

    go : (a b c d e f : Bool) (u1 u2 u3 u4 u5 u6 : StreamSettings)
        → cond a (answered u1) (cond b (answered u2) (cond c (answered u3) (cond d (ranged_of u4 0 v max_distance) (cond e (ranged_of u5 0 v max_filter) (cond f (ranged_of u6 1 v max_position) (refused 3)))))) ≡ refused n
        → Possible n
    go true b c d e f u1 u2 u3 u4 u5 u6 h = absurd (let z : ◌≡◌ {A = ℕ} 0 1 = cc in omega arith)
    go false true c d e f u1 u2 u3 u4 u5 u6 h = absurd (let z : ◌≡◌ {A = ℕ} 0 1 = cc in omega arith)
    go false false true d e f u1 u2 u3 u4 u5 u6 h = absurd (let z : ◌≡◌ {A = ℕ} 0 1 = cc in omega arith)
    go false false false true e f u1 u2 u3 u4 u5 u6 h = ranged (between 0 v max_distance) u4 h
    go false false false false true f u1 u2 u3 u4 u5 u6 h = ranged (between 0 v max_filter) u5 h
    go false false false false false true u1 u2 u3 u4 u5 u6 h = ranged (between 1 v max_position) u6 h
    go false false false false false false u1 u2 u3 u4 u5 u6 h = of 3 word h

pub pop_refused : (p : BandPassActivityProfile) (cells : List Float) (extension least most : ℕ) (forced : Bool) → Whole p (length cells) → (n : ℕ) (q : BandPassActivityProfile)
    → pop_answer p cells extension least most forced ≡ refused_pop n q → Possible n
unfolding pop_answer pop_answer_by pop_verdict
pop_refused p cells extension least most forced w n q = rw (whole_not p (length cells) w) (go (eqb least 0 || eqb most 0) (turn p most forced))
  where
    go : (b : Bool) (t : Turn) → pop_answer_by (cond b (refusal 11) granted) t p cells extension least most forced ≡ refused_pop n q → Possible n
    go true t e = subst Possible (let z : 11 ≡ n = cc in z) zero_size
    go false empty e = absurd (let z : ◌≡◌ {A = ℕ} 0 1 = cc in omega arith)
    go false held e = absurd (let z : ◌≡◌ {A = ℕ} 0 1 = cc in omega arith)
    go false ready e = absurd (let z : ◌≡◌ {A = ℕ} 0 1 = cc in omega arith)

rest_contig : (p : BandPassActivityProfile) (size left : ℕ) → (rest p size left).contig ≡ p.contig
unfolding rest
rest_contig p size zero = refl
rest_contig p size (suc n) = refl

pub pop_contig : (p : BandPassActivityProfile) (cells : List Float) (extension least most : ℕ) (forced : Bool) (a : PopAnswer) → pop_answer p cells extension least most forced ≡ a → (after_pop a).contig ≡ p.contig
unfolding pop_answer pop_answer_by
pop_contig p cells extension least most forced a e = ap (λ (x : PopAnswer). (after_pop x).contig) (sym e) ∙ go (pop_verdict p (length cells) least most) (turn p most forced)
  where
    go : (v : Verdict) (t : Turn) → (after_pop (pop_answer_by v t p cells extension least most forced)).contig ≡ p.contig
    go (refusal n) t = refl
    go granted empty = refl
    go granted held = refl
    go granted ready = rest_contig p (pop_size p cells least most forced) (kept p forced - pop_size p cells least most forced)
