use Rattle.std.proofs.Common.{◌∙◌, replicate, drop, sym, ap}
use Rattle.std.specs.Int.{w64, from_le_bytes}
use Rattle.std.proofs.lemmas.Nat.{from_le_bytes-to_le_bytes_8}
use borrow.Rule.Slice.PartMut.{put_mid}
use Rattle.packets.proofs.header.nonce_of.Goals as goal

pub returns-clause-value : goal.returns-clause-value
returns-clause-value c = ap (put_mid 4 8 (replicate 12 0)) (c.copy_from_slice.ensures.after ∙ c.to_le_bytes.ensures)

pub returns-clause-distinct : goal.returns-clause-distinct
returns-clause-distinct c n fits same =
    sym (from_le_bytes-to_le_bytes_8 n fits)
    ∙ ap (λ nonce. from_le_bytes w64 (drop 4 nonce)) (same ∙ returns-clause-value c)
    ∙ from_le_bytes-to_le_bytes_8 c.args.counter c.ranges.counter.fits
