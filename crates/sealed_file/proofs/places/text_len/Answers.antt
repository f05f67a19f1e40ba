use Rattle.std.proofs.Common.{◌∙◌, arith, sym}
use Rattle.sealed_file.proofs.FileLemmas.{length-sealed}
use Rattle.sealed_file.proofs.places.text_len.Goals as goal

pub returns-clause-exact : goal.returns-clause-exact
returns-clause-exact c key salt text size is =
    omega (
      arith,
      c.saturating_sub.ensures,
      c.div_ceil.ensures,
      c.saturating_sub-body.ensures,
      sym is ∙ length-sealed key salt text size,
    )
