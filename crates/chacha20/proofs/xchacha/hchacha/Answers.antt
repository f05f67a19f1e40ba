use Rattle.std.proofs.Common.{◌≡◌, ◌∙◌, ◌++◌, take, drop, replicate, refl, arith, drop_at}
use borrow.Rule.Slice.PartMut.{put_mid}
use Rattle.chacha_base.specs.ChaCha.{bytes}
use Rattle.chacha_base.proofs.ListLemmas.{by_words, part_long}
use Rattle.chacha20.proofs.xchacha.hchacha.Goals as goal

pub returns : goal.returns
returns g c =
    rw (c.write_bytes.ensures, c.write_bytes-2.ensures)
    (by_words 16 (λ s. put_mid 16 16 (bytes (take 4 s) ++ replicate 16 0) (bytes (take 4 (drop 12 s)))
    ≡ bytes (take 4 s ++ drop 12 s)) c.double_rounds.new.state c.double_rounds.array_long refl
    ∙ rw (c.double_rounds.ensures.state, c.COUNT.ensures, c.start_state-state.ensures, c.read_words.ensures))

pub write_bytes-requires : goal.write_bytes-requires
write_bytes-requires g c = omega (arith, part_long 0 4 c.double_rounds.new.state (omega arith))

pub write_bytes-requires-2 : goal.write_bytes-requires-2
write_bytes-requires-2 g c =
    rw (drop_at c.write_bytes.new.output (replicate 16 0) 16 (omega arith))
    (omega (arith, part_long 12 4 c.double_rounds.new.state (omega arith)))
