use Rattle.std.proofs.Common.{◌∙◌, ap, replicate}
use Rattle.sealed_file.proofs.stream.clear.Goals as goal

pub returns : goal.returns
returns c = c.fill.ensures.after (λ y is. is) ∙ ap (λ n. replicate n 0) c.told-buf
