use Rattle.std.proofs.Common.{◌≡◌, sym, ap, ◌∙◌, arith}
use Rattle.std.specs.Int.{w64, from_le_bytes}
use Rattle.std.proofs.lemmas.Nat.{from_le_bytes-to_le_bytes_8}
use Rattle.chacha20.specs.Generator.{GeneratorState}
use Rattle.examples.proofs.simulation.worker.Goals as goal

pub returns-clause-value : goal.returns-clause-value
returns-clause-value c =
    c.set_stream.ensures
    ∙ ap (λ (g : GeneratorState). record g { stream = c.args.number; word_pos = 0 }) c.from_seed-rng.ensures

pub returns-clause-apart : goal.returns-clause-apart
returns-clause-apart c other below same =
    let stream : c.set_stream.new.self.stream ≡ c.args.number =
    ap (λ (g : GeneratorState). g.stream) c.set_stream.ensures in
    sym (from_le_bytes-to_le_bytes_8 other below) ∙ ap (from_le_bytes w64) same
    ∙ from_le_bytes-to_le_bytes_8 c.set_stream.new.self.stream (omega arith) ∙ stream
