use Rattle.std.proofs.Common.{◌∙◌, drop, arith, length-drop, take_all}
use Rattle.secretstream.proofs.MessageLemmas.{front-key, front-block}
use Rattle.secretstream.proofs.state.State.begin.Goals as goal

pub returns-clause-key : goal.returns-clause-key
returns-clause-key g c =
    let cipher = c.cipher-cipher.ensures in
    c.copy_from_slice.ensures.after
    ∙ front-key _ c.args.byte c.apply_keystream.ensures.bytes cipher.stream cipher.start

pub returns-clause-block : goal.returns-clause-block
returns-clause-block g c =
    let cipher = c.cipher-cipher.ensures in
    let front = c.apply_keystream.new.buf in
    c.copy_from_slice-2.ensures.after
    ∙ take_all 64 (drop 64 front) (omega (arith, length-drop 64 front, c.apply_keystream.auto.buf))
    ∙ front-block _ c.args.byte c.apply_keystream.ensures.bytes cipher.stream cipher.start
