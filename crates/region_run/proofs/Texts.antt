-- The text of what is printed, piece by piece; so the texts of all the calls of a run, one behind the other, are the text of the program. Assumes nothing.
use mathlib.Core.Path.{◌≡◌, refl, sym, ap, subst, ◌∙◌}
use mathlib.Core.Logic.{◌⊎◌, inl, inr}
use native.Mathlib.Omega.{arith}
use mathlib.Core.Bool.{Bool, true, false, true≢false, false≢true}
use mathlib.Core.List.{List, [], ◌∷◌, ◌++◌, append-nil, append_assoc}
use Rattle.std.specs.Prelude.{Ok, Err, Some, None}
use Prim.Native.Nat.{ℕ, ◌+◌, ◌*◌, ◌/◌, ◌≤◌, ◌<◌}
use lib.ListN.{length, take, drop}
use lib.Ieee.{Float}
use Rattle.genome.specs.Refusals.{number_of}
use Rattle.pileup_words.specs.Events.{events_of}
use Rattle.activity_profile.specs.declared.ActivityProfileRegion.{ActivityProfileRegion}
use Rattle.region_program.specs.Program.{Scoring, Reading, Printed, printed, refused_at, after, program}
use Rattle.region_program.specs.Feeding.{FedBy}
use Rattle.region_program.specs.declared.RegionStream.{RegionStream}
use Rattle.region_program.specs.Stream.{start, acts_left, most_acts}
use Rattle.region_program.specs.Tables.{table_score, table_filled, list_filled}
use Rattle.region_program.proofs.Tables.{score_of-filled}
use Rattle.region_program.proofs.Feeding.{fed_prints, fed_same}
use Rattle.region_feed.specs.Feed.{Found, Nearer, Prints, closing}
use Rattle.region_program.proofs.Lines.{AllOn, lines_on_contig}
use Rattle.region_text.specs.Text.{line_text, refusal_text}
use Rattle.region_sheet.specs.Row.{region_row, AllFit}
use Rattle.region_sheet.specs.Pages.{sheet_text, rows_after, behind_row, page_end, pages_from}
use Rattle.region_sheet.proofs.Pages.{sheet_pages, sheet_bytes}
use Rattle.region_print.specs.declared.Form.{Form}
use Rattle.region_print.specs.declared.Form.TheVariants.{Listing, Sheet}
use Rattle.region_print.specs.Forms.{region_text, after_region, end_text, stop_text}
use Rattle.region_run.specs.declared.RegionRun.{RegionRun}
use Rattle.region_run.specs.Run.{lines_text, close_text, printed_text, found_text, form_after, is_over, Wrote, BLOCK, Steps, Ran, onward, stopped, finishing}

-- ---- one piece

line_first : (form : Form) (r : ActivityProfileRegion) (p : Printed) → printed_text form (after r p) ≡ region_text form r ++ printed_text (after_region form) p
unfolding lines_text pages_from
line_first Listing r p = append_assoc (line_text r) (lines_text p.lines) (close_text p.close)
line_first (Sheet k) r p =
    let rest = pages_from (rows_after k) p.lines in
    append_assoc (region_row r) (behind_row k ++ rest) (close_text p.close)
    ∙ ap (λ (t : List ℕ). region_row r ++ t) (append_assoc (behind_row k) rest (close_text p.close))
    ∙ sym (append_assoc (region_row r) (behind_row k) (rest ++ close_text p.close))

-- a refusal, and nothing else
refusal_alone : (form : Form) (n i : ℕ) → printed_text form (printed [] (refused_at n i)) ≡ stop_text form n i
unfolding lines_text pages_from
refusal_alone Listing n i = refl
refusal_alone (Sheet k) n i = refl

-- what is found is written as its text: where it does not end the run, and where it does, whatever is said to be left then
pub found_goes : (scoring : Scoring) (f : Found) (form : Form) (a b : Reading) (words rest : List ℕ) → is_over f ≡ false → Prints scoring f a words b rest
    → Wrote scoring false (found_text form f) form a words (form_after form f) b rest
found_goes scoring (Ok None) form a b words rest e g = λ later remainder q h. (q, g later remainder q h, refl)
found_goes scoring (Ok (Some r)) form a b words rest e g = λ later remainder q h. (after r q, g later remainder q h, line_first form r q)
found_goes scoring (Err y) form a b words rest e g = absurd (true≢false e)

pub found_stopped : (scoring : Scoring) (f : Found) (form form' : Form) (a b c : Reading) (words rest behind : List ℕ) → is_over f ≡ true → Prints scoring f a words b rest
    → Wrote scoring true (found_text form f) form a words form' c behind
found_stopped scoring (Ok None) form form' a b c words rest behind e g = absurd (false≢true e)
found_stopped scoring (Ok (Some r)) form form' a b c words rest behind e g = absurd (false≢true e)
found_stopped scoring (Err y) form form' a b c words rest behind e g = λ later remainder. (printed [] (refused_at (number_of y.refusal) y.index), g later remainder, refusal_alone form (number_of y.refusal) y.index)

-- and comes nearer to the end
pub goes_nearer : (f : Found) (s t : RegionStream) (at next : ℕ) → is_over f ≡ false → Nearer f s at t next → acts_left t + at * (most_acts + 1) < acts_left s + next * (most_acts + 1)
goes_nearer (Ok None) s t at next e n = n
goes_nearer (Ok (Some r)) s t at next e n = n
goes_nearer (Err y) s t at next e n = absurd (true≢false e)

-- ---- pieces behind each other

pub wrote_then : (scoring : Scoring) (o : Bool) (x y : List ℕ) (f₁ f₂ f₃ : Form) (a b c : Reading) (words rest behind : List ℕ) → Wrote scoring false x f₁ a words f₂ b rest
    → Wrote scoring o y f₂ b rest f₃ c behind → Wrote scoring o (x ++ y) f₁ a words f₃ c behind
wrote_then scoring false x y f₁ f₂ f₃ a b c words rest behind f g = λ later remainder q h.
    let second = g later remainder q h in
    let first = f later remainder second.0 second.1 in
    (first.0, first.1, first.2 ∙ ap (λ (t : List ℕ). x ++ t) second.2 ∙ sym (append_assoc x y (printed_text f₃ q)))
wrote_then scoring true x y f₁ f₂ f₃ a b c words rest behind f g = λ later remainder.
    let second = g later remainder in
    let first = f later remainder second.0 second.1 in
    (first.0, first.1, first.2 ∙ ap (λ (t : List ℕ). x ++ t) second.2)

-- the end of the input, and of the page that is open
closing_text : (form : Form) (f : Found) → found_text form f ++ end_text (form_after form f) ≡ printed_text form (closing f)
unfolding lines_text pages_from
closing_text Listing (Ok None) = refl
closing_text (Sheet k) (Ok None) = sym (append-nil (page_end k))
closing_text Listing (Ok (Some r)) = sym (append-nil (line_text r ++ []))
closing_text (Sheet k) (Ok (Some r)) = append_assoc (region_row r) (behind_row k) (page_end (rows_after k)) ∙ sym (append-nil (region_row r ++ (behind_row k ++ page_end (rows_after k))))
closing_text Listing (Err y) = append-nil (refusal_text (number_of y.refusal) y.index)
closing_text (Sheet k) (Err y) = append-nil (page_end k ++ refusal_text (number_of y.refusal) y.index)

pub closed_text : (form : Form) (f : Found) (last : Form) (x y : List ℕ) → last ≡ form_after form f → x ≡ found_text form f → y ≡ x ++ end_text last → y ≡ printed_text form (closing f)
closed_text form f last x y e g h = rw (h, g, e) (closing_text form f)

-- ---- the steps of a call

-- no step yet, or nearer to the end of the words
pub record Unmoved (r s : RegionRun) : Type 0 where
  pub same_place : s.at ≡ r.at
  pub same_stream : s.stream ≡ r.stream
  pub none_used : s.used ≡ 0

abbrev pub Moved : RegionRun → RegionRun → Type 0
Moved r s = acts_left s.stream + r.at * (most_acts + 1) < acts_left r.stream + s.at * (most_acts + 1)

-- after some steps of a call from r on
pub record So (scoring : Scoring) (r s : RegionRun) (words text : List ℕ) (a b : Reading) : Type 0 where
  pub wrote : Wrote scoring s.over (take s.used text) r.form a (drop r.at words) s.form b (drop s.at words)
  pub room : s.used ≤ BLOCK
  pub done : s.over ≡ true → length words ≤ s.at
  pub within : r.at ≤ length words → s.at ≤ length words
  pub moved : Unmoved r s ⊎ Moved r s

-- a step more, of a run that is not over
pub so_more : (scoring : Scoring) (r s t : RegionRun) (words text text' : List ℕ) (a b c : Reading) → s.over ≡ false → So scoring r s words text a b → Steps scoring s t words text text' b c
    → So scoring r t words text' a c
so_more scoring r s t words text text' a b c o f g = record {
  wrote = rw g.written (wrote_then scoring t.over (take s.used text) g.new r.form s.form t.form a b c (drop r.at words) (drop s.at words) (drop t.at words) (rw o at f.wrote) g.wrote);
  room = g.room;
  done = λ h. omega (arith, g.done h);
  within = λ h. g.within;
  moved = inr (near f.moved);
}
  where
    near : Unmoved r s ⊎ Moved r s
        → Moved r t
    near (inl e) = subst (λ (u : RegionStream). acts_left t.stream + r.at * (most_acts + 1) < acts_left u + t.at * (most_acts + 1)) e.same_stream (omega (arith, g.nearer, e.same_place))
    near (inr n) = omega (arith, g.nearer, n)

-- before the last word the run is not over
pub so_open : (scoring : Scoring) (r s : RegionRun) (words text : List ℕ) (a b : Reading) → So scoring r s words text a b → s.at < length words → s.over ≡ false
so_open scoring r s words text a b f h = go s.over f.done
  where
    go : (o : Bool) → (o ≡ true → length words ≤ s.at) → o ≡ false
    go true g = absurd (omega (arith, g refl, h))
    go false g = refl

-- ---- a whole run

fed_ran : (scoring : Scoring) (remainder : Bool) (form : Form) (a : Reading) (words text : List ℕ) → Ran scoring remainder form a words text
    → (p : Printed) × FedBy scoring a (events_of words remainder) p × (printed_text form p ≡ text)
unfolding events_of
fed_ran scoring remainder _ _ _ _ (onward form form' a b words rest later new text f more) =
    let rest-fed = fed_ran scoring remainder form' b (rest ++ later) text more in
    let all = f later remainder rest-fed.0 rest-fed.1 in
    (all.0, all.1, all.2 ∙ ap (λ (t : List ℕ). new ++ t) rest-fed.2)
fed_ran scoring remainder _ _ _ _ (stopped form form' a b words rest later new f) = f later remainder
fed_ran scoring remainder _ _ _ _ (finishing form a p f) = (p, f, refl)

-- What the calls of a run write, from the start and by tables that were filled, is the text of what the program prints of all its words, in the form that the run was started with.
pub run_text : (remainder : Bool) (form : Form) (cells l k : List Float) (words text : List ℕ)
    → Ran (table_score (table_filled l) (list_filled k)) remainder form (start cells) words text → text ≡ printed_text form (program words remainder (start cells))
run_text remainder form cells l k words text ran =
    let scoring = table_score (table_filled l) (list_filled k) in
    let fed = fed_ran scoring remainder form (start cells) words text ran in
    sym fed.2
    ∙ ap (printed_text form) (fed_prints (start cells) (events_of words remainder) fed.0 (fed_same scoring (score_of-filled l k) (start cells) (events_of words remainder) fed.0 fed.1))

-- A sheet, begun with an empty page, has the pages of all the regions, and the refusal behind the last.
pub run_sheet : (remainder : Bool) (cells l k : List Float) (words text : List ℕ) → Ran (table_score (table_filled l) (list_filled k)) remainder (Sheet 0) (start cells) words text
    → let p = program words remainder (start cells) in text ≡ sheet_text p.lines ++ close_text p.close
run_sheet remainder cells l k words text ran =
    let p = program words remainder (start cells) in
    run_text remainder (Sheet 0) cells l k words text ran ∙ ap (λ (t : List ℕ). t ++ close_text p.close) (sym (sheet_pages p.lines))

-- Whatever the words are: the regions on the sheet are the lines of the listing, in order, and the same refusal ends both.
pub sheet_of_listing : (remainder : Bool) (cells l k l' k' : List Float) (words listing sheet : List ℕ)
    → Ran (table_score (table_filled l) (list_filled k)) remainder Listing (start cells) words listing
    → Ran (table_score (table_filled l') (list_filled k')) remainder (Sheet 0) (start cells) words sheet
    → (p : Printed) × (listing ≡ lines_text p.lines ++ close_text p.close) × (sheet ≡ sheet_text p.lines ++ close_text p.close)
sheet_of_listing remainder cells l k l' k' words listing sheet ran ran' =
    (program words remainder (start cells), run_text remainder Listing cells l k words listing ran, run_sheet remainder cells l' k' words sheet ran')

-- ---- how many bytes

all_fit : (rs : List ActivityProfileRegion) → AllOn rs → AllFit rs
all_fit [] on = tt
all_fit (r ∷ rs) on =
    let c = on.0.1 in (
      record {
        start = omega (arith, c.ordered, c.high, c.high_last, c.longest);
        end = omega (arith, c.high, c.high_last, c.longest);
        low = omega (arith, c.low, c.ordered, c.high, c.high_last, c.longest);
        high = omega (arith, c.high_last, c.longest);
      },
      all_fit rs on.1,
    )

-- Whatever the words are: n regions are 46 n bytes and n / 60, rounded up, a refusal line aside.
pub stream_sheet_bytes : (words : List ℕ) (remainder : Bool) (s : Reading) → let rs = (program words remainder s).lines in length (sheet_text rs) ≡ 46 * length rs + (length rs + 59) / 60
stream_sheet_bytes words remainder s = let rs = (program words remainder s).lines in sheet_bytes rs (all_fit rs (lines_on_contig words remainder s))
