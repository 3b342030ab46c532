-- `keep_rest` meets its contract: std's copy within a slice, element by element, is the rule of a byte that comes to the front.
use Rattle.std.proofs.Common.{◌≡◌, ℕ, zero, suc, ◌+◌, ◌-◌, ◌%◌, ◌<◌, ◌≤◌, List, length, get_or, set, drop, ◌∙◌, sym, refl, ap, arith, length-drop, get_or-drop, lt-ltb, le-ltb}
use Rattle.std.proofs.Math.Seq.{paste, paste-zero, paste-suc}
use Rattle.lists.specs.Each.{up_to, up_to_zero, up_to_put, up_to-rest}
use Rattle.standard_io.specs.Words.{moved_byte}
use Rattle.standard_io.proofs.reading.keep_rest.Goals as goal

-- a copy to the front, where each of its elements is what the rule says
pasted : (rule : ℕ → ℕ → ℕ) (l s : List ℕ) (k : ℕ) → k ≤ length s → k ≤ length l → ((i : ℕ) → i < k → get_or s i 0 ≡ rule i (get_or l i 0)) → paste l 0 s k ≡ up_to rule k l
pasted rule l s zero h j e = sym (paste-zero l 0 s) ∙ sym (up_to_zero rule l)
pasted rule l s (suc k) h j e =
    let front : paste l 0 s k ≡ up_to rule k l = pasted rule l s k (omega arith) (omega arith) (λ i b. e i (omega arith)) in
    let step : set (paste l 0 s k) k (get_or s k 0) ≡ up_to rule (k + 1) l = up_to_put rule k l _ 0 _ front (omega arith) (e k (omega arith)) in
    let at_front : 0 + k ≡ k = omega arith in
    let next : k + 1 ≡ suc k = omega arith in
    sym (paste-suc l 0 s k 0 (omega arith) (omega arith)) ∙ ap (λ n. set (paste l 0 s k) n (get_or s k 0)) at_front ∙ step ∙ ap (λ n. up_to rule n l) next

pub returns-clause-bytes_after : goal.returns-clause-bytes_after
returns-clause-bytes_after c =
    let n = c.args.n in
    let bytes = c.args.bytes.now in
    let rule = moved_byte bytes n in
    let rest : n - (n - n % 4) ≡ n % 4 = omega arith in
    c.copy_within.ensures.after
    ∙ ap (paste bytes 0 (drop (n - n % 4) bytes)) rest
    ∙ pasted rule bytes (drop (n - n % 4) bytes) (n % 4) (omega (arith, length-drop (n - n % 4) bytes, c.requires)) (omega (arith, c.requires))
    (λ i h. get_or-drop (n - n % 4) bytes i 0 ∙ sym (simp (lt-ltb i (n % 4) h) refl))
    ∙ up_to-rest rule (n % 4) bytes (λ k x h. simp (le-ltb k (n % 4) h))
