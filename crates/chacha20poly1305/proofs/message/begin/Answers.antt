use Rattle.std.proofs.Common.{◌++◌, ap, arith, length, length-append}
use Rattle.chacha20poly1305.proofs.MessageLemmas.{front-key, front-text}
use Rattle.chacha20poly1305.proofs.message.begin.Goals as goal

pub returns-clause-mac_key : goal.returns-clause-mac_key
returns-clause-mac_key g c =
    front-key _ _ c.apply_keystream.ensures.bytes c.requires.start c.copy_from_slice.ensures.after

pub returns-clause-front : goal.returns-clause-front
returns-clause-front g c =
    let place = c.split_at_mut-place in
    front-text _ _ c.apply_keystream.ensures.bytes c.requires.start c.copy_from_slice.ensures.after c.args.text.now
    place.result.1.now _ (ap (λ s. s ++ place.result.1.now) c.copy_from_slice-2.ensures.after)
    (omega (
      arith,
      place.ensures.front_len,
      c.min.ensures,
      ap length place.ensures.value,
      length-append place.result.0.now place.result.1.now,
      length-append c.copy_from_slice-2.new.self place.result.1.now,
      c.copy_from_slice-2.auto.self,
    ))
