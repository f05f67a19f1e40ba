use Rattle.std.proofs.Common.{◌∙◌, drop, arith, ap, length-drop, take_all}
use Rattle.std.specs.Int.{w32, from_le_bytes}
use Rattle.secretstream.proofs.StateBytesLemmas.{state-same}
use Rattle.secretstream.proofs.state.State.from_bytes.Goals as goal

pub returns : goal.returns
returns c =
    let bytes = c.args.bytes.now in
    state-same c.copy_from_slice.ensures.after
    (c.from_le_bytes.ensures ∙ ap (from_le_bytes w32) c.copy_from_slice-2.ensures.after)
    (c.copy_from_slice-3.ensures.after
    ∙ take_all 8 (drop 36 bytes) (omega (arith, length-drop 36 bytes, c.told-bytes)))
