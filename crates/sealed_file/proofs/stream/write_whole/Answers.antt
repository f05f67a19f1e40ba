use Rattle.std.proofs.Common.{length, length-drop, take, arith, sym, ap, subst}
use Rattle.std.proofs.lemmas.List.{take_rest}
use Rattle.std.specs.Io.KnownBytes.{Appends}
use Rattle.std.proofs.KnownBytes.{Appends-kept}
use Rattle.chacha20.proofs.StdLemmas.{Appends-more}
use Rattle.sealed_file.proofs.stream.write_whole.Goals as goal
use Rattle.sealed_file.proofs.stream.write_whole.Goals.{in-Ok, in-Err+in_default}

pub tries-preserved : goal.tries-preserved
tries-preserved g c =
    let bytes = c.args.bytes.now in
    let done = c.tries.done in
    let (within, before) = c.tries.invariant in
    let rest = take_rest bytes done in
    elim c.match-write.branch [
      | in-Ok w ↦ (
        omega (arith, within, w.done-is, w.in-Ok.ensures.bound, ap length rest, length-drop done bytes),
        Appends-more _ _ _ bytes _ done w.in-Ok.n _ rest w.done-is before w.in-Ok.ensures.bytes,
      )
      | in-Err+in_default w ↦ (
        omega (arith, within, w.done-is),
        subst (Appends _ _) (ap (λ m. take m bytes) (sym w.done-is))
            (Appends-kept _ _ _ _ before w.in-Err.ensures.bytes),
      )
    ]
