-- `write_all` meets its contract: each write appends the bytes that it takes.
use Rattle.std.proofs.Common.{◌+◌, ◌++◌, take, drop, sym, ap, ◌∙◌, subst, take-add}
use Rattle.std.proofs.lemmas.List.{take_rest, drop-drop}
use Rattle.std.specs.Io.KnownBytes.{Appends}
use Rattle.std.proofs.KnownBytes.{Appends-trans, Appends-kept}
use Rattle.standard_io.proofs.writing.write_all.Goals as goal
use Rattle.standard_io.proofs.writing.write_all.Goals.{in-Ok, in-Err+else-ne}

pub loop-preserved : goal.loop-preserved
loop-preserved g c =
    let all = c.args.bytes.now in
    let n = c.loop.invariant.0 in
    let left = c.loop.invariant.1 in
    elim c.match-write.branch [
      | in-Ok w ↦
          let got = w.in-Ok.got in
          let all_came = ap (λ l. take n all ++ take got l) left ∙ sym (take-add n got all) in
          let rest = take_rest c.loop.rest.now got ∙ ap (drop got) left ∙ drop-drop got n all in
          (n + got, rw w.rest-is rest, subst (Appends _ _) all_came (Appends-trans _ _ _ _ _ c.loop.invariant.2 w.in-Ok.ensures.bytes))
      | in-Err+else-ne w ↦ (n, rw w.rest-is left, Appends-kept _ _ _ _ c.loop.invariant.2 w.in-Err.ensures.bytes)
    ]
