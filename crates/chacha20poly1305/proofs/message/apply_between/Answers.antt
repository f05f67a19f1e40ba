use Rattle.std.proofs.Common.{◌++◌, ◌∙◌, ap₂, sym}
use Rattle.std.proofs.lemmas.List.{take-append-drop}
use Rattle.chacha20.specs.ChaCha.{keystream}
use Rattle.chacha20poly1305.proofs.MessageLemmas.{TwoParts, both-parts}
use Rattle.chacha20poly1305.proofs.message.apply_between.Goals as goal

pub returns-then-not-is_empty : goal.returns-then-not-is_empty
returns-then-not-is_empty g c =
    let cipher = g.C.Keystream in
    let input = c.split_at-2 in
    let two : TwoParts (keystream cipher.modulus (cipher.block_at (cipher.fixed c.args.cipher.now))) c.args.front.now
    c.split_at.result.1.now c.args.input.now input.result.0.now input.result.1.now =
    record {
      begun = c.requires.front;
      some = c.requires.some;
      behind = c.split_at.ensures.back;
      parts = sym (ap₂ ◌++◌ input.ensures.front input.ensures.back ∙ take-append-drop c.min.result c.args.input.now);
      size = input.ensures.front_len ∙ c.min.ensures;
    } in
    both-parts two c.copy_from_slice.ensures.after c.is_empty.ensures c.if-not-is_empty.true c.requires.position
    c.apply_keystream_b2b.ensures.bytes
