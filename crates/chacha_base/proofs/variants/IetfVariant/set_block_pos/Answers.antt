use Rattle.std.proofs.Common.{◌≡◌, ◌%◌, ◌^◌, arith}
use Rattle.std.proofs.lemmas.List.{drop-set}
use Rattle.chacha_base.proofs.variants.IetfVariant.set_block_pos.Goals as goal

-- answered for speed
pub returns-clause-row : goal.returns-clause-row
returns-clause-row c =
    let row = c.args.row.now in
    let word : c.args.pos % 2 ^ 32 ≡ c.args.pos = omega arith in
    rw word (drop-set row 0 c.args.pos (omega arith))
