-- One call more on a profile, and what it adds to the loci accepted and popped. Assumes nothing.
use mathlib.Core.Path.{◌≡◌, refl, sym, ap, subst, ◌∙◌}
use mathlib.Core.List.{List, [], ◌∷◌, ◌++◌, append-nil, append_assoc}
use Prim.Native.Nat.{ℕ}
use lib.Ieee.{Float}
use Rattle.genome.specs.Refusals.{answered}
use Rattle.activity_profile.specs.declared.ActivityProfileRegion.{ActivityProfileRegion}
use Rattle.activity_profile.specs.Loci.{loci}
use Rattle.activity_profile.specs.Run.{Call, Lent, step, after, accepted_by, accepted_in, popped_by, popped_in}
use Rattle.stream_settings.specs.declared.StreamSettings.{StreamSettings}
use Rattle.region_program.specs.Program.{Reading, profile_made}
use Rattle.region_program.specs.Reach.{lines_loci, OfCalls}

-- ---- one call more

after_more : (l : Lent) (cs : List Call) (c : Call) → after l (cs ++ (c ∷ [])) ≡ step (after l cs) c
unfolding after
after_more l [] c = refl
after_more l (x ∷ cs) c = after_more (step l x) cs c

popped_more : (l : Lent) (cs : List Call) (c : Call) → popped_in l (cs ++ (c ∷ [])) ≡ popped_in l cs ++ popped_by (after l cs) c
unfolding after popped_in
popped_more l [] c = append-nil (popped_by l c)
popped_more l (x ∷ cs) c = ap (λ t. popped_by l x ++ t) (popped_more (step l x) cs c) ∙ sym (append_assoc (popped_by l x) (popped_in (step l x) cs) (popped_by (after (step l x) cs) c))

accepted_more : (l : Lent) (cs : List Call) (c : Call) → accepted_in l (cs ++ (c ∷ [])) ≡ accepted_in l cs ++ accepted_by (after l cs) c
unfolding after accepted_in
accepted_more l [] c = append-nil (accepted_by l c)
accepted_more l (x ∷ cs) c = ap (λ t. accepted_by l x ++ t) (accepted_more (step l x) cs c) ∙ sym (append_assoc (accepted_by l x) (accepted_in (step l x) cs) (accepted_by (after (step l x) cs) c))

pub loci_more : (lines : List ActivityProfileRegion) (r : ActivityProfileRegion) → lines_loci (lines ++ (r ∷ [])) ≡ lines_loci lines ++ loci r.start r.end
loci_more [] r = append-nil (loci r.start r.end)
loci_more (x ∷ lines) r = ap (λ t. loci x.start x.end ++ t) (loci_more lines r) ∙ sym (append_assoc (loci x.start x.end) (lines_loci lines) (loci r.start r.end))

-- what a reading lends a call
abbrev pub lent : Reading → Lent
lent s = record { profile = s.profile; cells = s.cells }

-- u is s after a call, with what the call accepted read and what it popped printed
pub more : (cells : List Float) (read read' : List ℕ) (lines lines' : List ActivityProfileRegion) (s u : Reading) (c : Call) → u.settings ≡ s.settings → OfCalls cells read lines s
    → step (lent s) c ≡ lent u → read' ≡ read ++ accepted_by (lent s) c → lines_loci lines' ≡ lines_loci lines ++ popped_by (lent s) c → OfCalls cells read' lines' u
more cells read read' lines lines' s u c same o e g f =
    let fresh : Lent = record { profile = o.made; cells = cells } in
    record {
      made = o.made;
      by_making = subst (λ (t : StreamSettings). profile_made t ≡ answered o.made) (sym same) o.by_making;
      calls = o.calls ++ (c ∷ []);
      left = after_more fresh o.calls c ∙ ap (λ (l : Lent). step l c) o.left ∙ e;
      accepted = accepted_more fresh o.calls c ∙ ap (λ t. t ++ accepted_by (after fresh o.calls) c) o.accepted ∙ ap (λ (l : Lent). read ++ accepted_by l c) o.left ∙ sym g;
      popped = popped_more fresh o.calls c ∙ ap (λ t. t ++ popped_by (after fresh o.calls) c) o.popped ∙ ap (λ (l : Lent). lines_loci lines ++ popped_by l c) o.left ∙ sym f;
    }
