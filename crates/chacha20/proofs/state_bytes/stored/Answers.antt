use Rattle.std.proofs.Common.{◌%◌, ◌^◌, refl, sym, ap, arith, ◌∙◌}
use Rattle.chacha20.specs.Generator.{state_bytes, of_state_bytes}
use Rattle.chacha20.proofs.StateBytesLemmas.{IsWritten, state_is, of_state_bytes-state_bytes}
use Rattle.chacha20.proofs.state_bytes.stored.Goals as goal

pub returns : goal.returns
returns c =
    let w = c.args.word_pos % 2 ^ 68 in
    let is : IsWritten (record { seed = c.args.seed.now; stream = c.args.stream; word_pos = w }) _ _ _ w =
    record {
      long = c.copy_from_slice.ensures.len;
      seed = c.copy_from_slice.ensures.after;
      stream = c.copy_from_slice-2.ensures.after ∙ c.to_le_bytes.ensures;
      low = rw c.from.ensures at (c.copy_from_slice-3.ensures.after ∙ c.to_le_bytes-low.ensures);
      position = refl;
    } in
    let value =
    ap of_state_bytes (state_is is) ∙ of_state_bytes-state_bytes _ c.told-seed (omega arith) (omega arith) in
    record { value = value; stored = state_is is ∙ ap state_bytes (sym value) }
