-- Texts that are added one behind the other. Assumes nothing.
use mathlib.Core.Path.{◌≡◌, sym, ap, ◌∙◌}
use mathlib.Core.Bool.{Bool, true, false, not}
use mathlib.Core.List.{List, ◌++◌, append_assoc}
use Prim.Native.Nat.{ℕ, ◌+◌, ◌≤◌}
use borrow.Author.Tests.{leb-true, not-false}
use lib.Dec.{leb, eqb}
use native.Mathlib.Omega.{arith}
use lib.ListN.{length, take, drop, length-append, length-drop}
use lib.Seq.{length-take-le, take_at, drop_at, drop-drop}
use Rattle.region_sheet.specs.Pages.{feed_where}
use Rattle.region_print.specs.declared.Form.{Form}
use Rattle.region_print.specs.declared.Form.TheVariants.{Listing, Sheet}
use Rattle.region_print.specs.Forms.{end_text}
use Rattle.region_print.specs.Buffers.{MOST, Added, AddedWhereRoom}

-- a buffer keeps its length
pub added_long : (new text : List ℕ) (used : ℕ) (text' : List ℕ) (n : ℕ) → Added new text used text' n → length text' ≡ length text
added_long new text used text' n a =
    let within : used ≤ length text = omega (arith, a.count, a.within) in
    ap length a.written
    ∙ length-append (take used text) (new ++ drop n text)
    ∙ omega (arith, length-append new (drop n text), length-take-le used text within, length-drop n text, a.count, a.within)

-- one behind the other
pub added_then : (x y text mid text' : List ℕ) (used m n : ℕ) → Added x text used mid m → Added y mid m text' n → Added (x ++ y) text used text' n
added_then x y text mid text' used m n a b =
    let front = take used text in
    let within : used ≤ length text = omega (arith, a.count, a.within) in
    let long = added_long x text used mid m a in
    let seam : length (front ++ x) ≡ m = length-append front x ∙ omega (arith, length-take-le used text within, a.count) in
    let said : mid ≡ (front ++ x) ++ drop m text = a.written ∙ sym (append_assoc front x (drop m text)) in
    let kept : take m mid ≡ front ++ x = ap (take m) said ∙ take_at (front ++ x) (drop m text) m seam in
    let rest : drop m mid ≡ drop m text = ap (drop m) said ∙ drop_at (front ++ x) (drop m text) m seam in
    let last : drop n mid ≡ drop n text =
    ap (λ k. drop k mid) b.count
    ∙ sym (drop-drop (length y) m mid)
    ∙ ap (drop (length y)) rest
    ∙ drop-drop (length y) m text
    ∙ ap (λ k. drop k text) (sym b.count)
    in
    record {
      count = b.count ∙ omega (arith, a.count, length-append x y);
      within = omega (arith, b.within, long);
      written =
          b.written
          ∙ ap (λ (t : List ℕ). t ++ (y ++ drop n mid)) kept
          ∙ ap (λ (t : List ℕ). front ++ x ++ (y ++ t)) last
          ∙ append_assoc front x (y ++ drop n text)
          ∙ ap (λ (t : List ℕ). front ++ t) (sym (append_assoc x y (drop n text)));
    }

-- ---- where there is room

pub room : (new text : List ℕ) (used : ℕ) (text' : List ℕ) (n : ℕ) → used + MOST ≤ length text → n ≤ used + MOST → Added new text used text' n → AddedWhereRoom new text used text' n
room new text used text' n h few a = record { added = λ _. a; none = λ k. absurd (omega (arith, h, k)); few = few }

-- what is in use then
pub front_added : (new text : List ℕ) (used : ℕ) (text' : List ℕ) (n : ℕ) → Added new text used text' n → take n text' ≡ take used text ++ new
front_added new text used text' n a =
    let within : used ≤ length text = omega (arith, a.count, a.within) in
    let seam : length (take used text ++ new) ≡ n = length-append (take used text) new ∙ omega (arith, length-take-le used text within, a.count) in
    ap (take n) (a.written ∙ sym (append_assoc (take used text) new (drop n text))) ∙ take_at (take used text ++ new) (drop n text) n seam

pub has : (b : Bool) (used long : ℕ) → b ≡ leb (used + MOST) long → not b ≡ false → used + MOST ≤ long
has b used long e h = leb-true (used + MOST) long (sym e ∙ not-false b h)

-- a page's end is a byte at most
feed_few : (b : Bool) → length (feed_where b) ≤ 1
feed_few true = omega arith
feed_few false = omega arith

pub end_few : (form : Form) → length (end_text form) ≤ 1
end_few Listing = omega arith
end_few (Sheet rows) = feed_few (not (eqb rows 0))
