use Rattle.std.proofs.Common.{rules, ◌≡◌, ◌%◌, arith, refl}
use Rattle.chacha20.specs.Generator.{GeneratorState, positions}
use Rattle.tests.proofs.RandChachaLemmas.{streams-agree, Fits, theirs}
use Rattle.tests.proofs.users.draws.same_stream.Goals as goal

pub returns : goal.returns
returns g c =
    let w = c.args.word_pos % positions in
    let rng : GeneratorState = record { seed = c.args.seed; stream = c.args.stream; word_pos = w } in
    let fits : Fits rng =
    record { long = search rules; bytes = λ i. search rules; stream = omega arith; below = omega arith } in
    let ours_is : c.set_word_pos.new.self ≡ rng =
    rw (c.set_word_pos.ensures.value, c.set_stream.ensures, c.from_seed-ours.ensures) refl in
    let theirs_is : c.set_word_pos-2.new.self ≡ theirs rng =
    rw (c.set_word_pos-2.ensures, c.set_stream-2.ensures, c.from_seed-theirs.ensures) refl in
    streams-agree rng fits ours_is theirs_is c.requires
