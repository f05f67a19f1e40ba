use Rattle.std.proofs.Common.{◌≡◌, ℕ, List, [], ◌≤◌, ◌<◌, ◌+◌, ◌-◌, ◌*◌, ◌/◌, ◌%◌, ◌∙◌, min, length, take, ap, arith, take_all}
use borrow.Rule.Slice.PartMut.{mid_of}
use Rattle.chacha_base.proofs.ListLemmas.{part_long}
use Rattle.chacha20.specs.Generator.{GeneratorState, fill}
use Rattle.chacha20.proofs.ReadLemmas.{generator_of-taken, FilledTo, words-more}
use Rattle.chacha20.proofs.rng.ChaChaRng.fill_words.Goals as goal

room : (a k i : ℕ) (dst buffer : List ℕ) → 4 * (a + k) ≤ length dst → i + k ≤ length buffer
    → length (mid_of (4 * a) (4 * a + 4 * k - 4 * a) dst) ≡ 4 * length (mid_of i (i + k - i) buffer)
room a k i dst buffer fits unread =
    let bytes : 4 * a + 4 * k - 4 * a ≡ 4 * k = omega arith in
    let words : i + k - i ≡ k = omega arith in
    rw (bytes, words) (omega (arith, part_long (4 * a) (4 * k) dst (omega arith), part_long i k buffer unread))

smaller : (n a k i : ℕ) → 4 * a < n → n % 4 ≡ 0 → k ≡ min (n / 4 - a) (64 - i) → i < 64 → n - 4 * (a + k) < n - 4 * a
smaller n a k i less whole count some = omega arith

pub words-init : goal.words-init
words-init g c = record {
  filled = record {
    unread = c.self.invariant;
    long = c.self.told;
    filled = ap (λ (h : GeneratorState). ([], h))
        (rw (← c.self.view_is) (generator_of-taken c.self.inside.core c.self.inside.index 0 _ (omega arith)));
  };
  within = omega arith;
}

pub words-preserved : goal.words-preserved
words-preserved g c =
    let n = g.R.Rounds.COUNT in
    let kept = c.words.invariant.filled in
    let i = c.refill.new.index in
    let k = c.min-count.result in
    let whole : i + k - i ≡ k = omega arith in
    let again = c.refill.ensures in
    let now : FilledTo n c.args.self.now c.words.done c.refill.new.core c.refill.new.buffer i c.words.dst =
    record {
      unread = again.unread;
      long = again.long;
      filled = ap (λ (h : GeneratorState). (take (4 * c.words.done) c.words.dst, h)) again.same ∙ kept.filled;
    } in
    record {
      filled = words-more now k _ (omega arith) (omega arith) (rw whole at c.write_bytes.ensures);
      within = omega arith;
    }

pub returns-clause-value : goal.returns-clause-value
returns-clause-value g c =
    let all : 4 * c.words.done ≡ length c.args.dst.now = omega arith in
    rw (take_all (4 * c.words.done) c.words.dst (omega arith)) at c.words.invariant.filled.filled
    ∙ ap (fill g.R.Rounds.COUNT c.args.self.now) all

pub write_bytes-requires : goal.write_bytes-requires
write_bytes-requires g c =
    room c.words.done c.min-count.result c.refill.new.index c.words.dst c.refill.new.buffer (omega arith) (omega arith)

pub words-smaller : goal.words-smaller
words-smaller g c =
    smaller (length c.args.dst.now) c.words.done c.min-count.result c.refill.new.index
    (rw c.words.auto.dst at c.words-test.true) c.requires (rw c.words.auto.dst at c.min-count.ensures)
    c.refill.ensures.some
