use Rattle.std.proofs.Common.{◌∙◌}
use Rattle.chacha20.specs.ChaCha.{keystream}
use Rattle.chacha20poly1305.proofs.MessageLemmas.{TwoParts, both-parts, one-part}
use Rattle.chacha20poly1305.proofs.message.apply.Goals as goal

pub returns-then-not-is_empty : goal.returns-then-not-is_empty
returns-then-not-is_empty g c =
    let cipher = g.C.Keystream in
    let parts = c.split_at_mut-first in
    let two : TwoParts (keystream cipher.modulus (cipher.block_at (cipher.fixed c.args.cipher.now))) c.args.front.now
    c.split_at.result.1.now c.args.message.now parts.result.0.now parts.result.1.now =
    record {
      begun = c.requires.front;
      some = c.requires.some;
      behind = c.split_at.ensures.back;
      parts = parts.ensures.value;
      size = parts.ensures.front_len ∙ c.min.ensures;
    } in
    both-parts two c.copy_from_slice.ensures.after c.is_empty.ensures c.if-not-is_empty.true c.requires.position
    c.apply_keystream.ensures.bytes

pub returns-else-not-is_empty : goal.returns-else-not-is_empty
returns-else-not-is_empty g c =
    let cipher = g.C.Keystream in
    let parts = c.split_at_mut-first in
    let two : TwoParts (keystream cipher.modulus (cipher.block_at (cipher.fixed c.args.cipher.now))) c.args.front.now
    c.split_at.result.1.now c.args.message.now parts.result.0.now parts.result.1.now =
    record {
      begun = c.requires.front;
      some = c.requires.some;
      behind = c.split_at.ensures.back;
      parts = parts.ensures.value;
      size = parts.ensures.front_len ∙ c.min.ensures;
    } in
    one-part two c.copy_from_slice.ensures.after c.is_empty.ensures c.if-not-is_empty.false
