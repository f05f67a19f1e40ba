use Rattle.std.proofs.Common.{◌++◌, ap₂, length}
use Rattle.std.proofs.lemmas.List.{drop-replicate}
use Rattle.poly1305.proofs.bytes.with_zeros.Goals as goal

pub returns : goal.returns
returns c = ap₂ ◌++◌ c.copy_from_slice.ensures.after (drop-replicate (length c.args.bytes.now) 16 0)
