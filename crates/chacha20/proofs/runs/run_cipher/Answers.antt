use Rattle.std.proofs.Common.{◌∷◌, [], ◌+◌, take, drop, length, refl, ap, arith, inl, inr}
use Rattle.std.proofs.lemmas.List.{take_all, take_more_set, drop_all, drop_more}
use Rattle.std.proofs.lemmas.List.Elements.{All-get_or, recursion_from_All}
use Rattle.chacha20.specs.Runs.{CipherOutcome, setting, cipher_run, InSlices}
use Rattle.chacha20.proofs.RunLemmas.{behind, run-more, run-all, Ran, law-seek_back, law-cut_anywhere}
use Rattle.chacha20.proofs.runs.run_cipher.Goals as goal

-- answered for speed
pub calls-preserved : goal.calls-preserved
calls-preserved g c =
    let s = setting g.C.Keystream.modulus g.C.Keystream.block_at c.args.input.now in
    let i = c.calls.i in
    let left = drop (i + 1) c.args.calls.now in
    run-more (cipher_run s c.calls.cipher c.calls.data) (cipher_run s c.call_cipher.new.cipher c.call_cipher.new.data)
    (take i c.calls.answers) c.calls.invariant (drop_more c.args.calls.now i _ (omega arith))
    (ap (λ (o : CipherOutcome). behind (o.answer ∷ []) (cipher_run s o.cipher o.bytes left)) c.call_cipher.ensures)
    (take_more_set c.calls.answers i c.call_cipher.result (omega arith))

pub returns : goal.returns
returns g c =
    let s = setting g.C.Keystream.modulus g.C.Keystream.block_at c.args.input.now in
    let answers = c.calls.answers in
    let run =
    run-all (cipher_run s c.calls.cipher c.calls.data) (take c.calls.i answers) refl c.calls.invariant
    (drop_all c.calls.i c.args.calls.now (omega arith)) (take_all c.calls.i answers (omega arith)) in
    let ran : Ran s c.args.cipher.now c.args.data.now c.args.calls.now (answers, c.calls.cipher, c.calls.data) =
    record { run = run; ranges = recursion_from_All _ c.args.calls.now c.requires.ranges } in
    record { run = run; seek_back = law-seek_back ran; cut_anywhere = law-cut_anywhere ran }

pub call_cipher-requires-clause-ranges : goal.call_cipher-requires-clause-ranges
call_cipher-requires-clause-ranges g c =
    let within = InSlices (length c.args.input.now) (length c.args.data.now) in
    rw c.calls.auto.data (All-get_or within c.args.calls.now c.calls.i _ c.calls-test.true c.requires.ranges)

-- a position fits 128 bits, since there are at most 2 ^ 64 counters
pub call_cipher-requires-clause-limit : goal.call_cipher-requires-clause-limit
call_cipher-requires-clause-limit g c =
    let same = g.met.C.StreamCipherSeekCore.counters in
    elim g.met.C.Counter.StreamCipherCounter.sizes [ inl e ↦ omega (arith, same) | inr e ↦ omega (arith, same) ]
