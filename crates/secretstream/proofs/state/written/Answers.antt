use Rattle.std.proofs.Common.{◌++◌, ◌∙◌, replicate, arith, ap, ap₂, append-nil}
use Rattle.chacha20.proofs.StdLemmas.{put_mid-at}
use Rattle.secretstream.specs.StateBytes.{state_of}
use Rattle.secretstream.proofs.StateBytesLemmas.{state_of-written}
use Rattle.secretstream.proofs.state.written.Goals as goal

pub returns : goal.returns
returns c =
    let front = c.copy_from_slice in
    let back = c.copy_from_slice-2 in
    ap state_of
    (put_mid-at 32 12 front.new.self (replicate 12 0) back.new.self front.ensures.len
    ∙ ap₂ ◌++◌ front.ensures.after (append-nil back.new.self ∙ back.ensures.after ∙ c.nonce.ensures))
    ∙ state_of-written (record { key = c.args.key.now; counter = c.args.counter; inner = c.args.inner.now }) c.told-key
    (omega arith)
