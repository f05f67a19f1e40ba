use Rattle.std.proofs.Common.{◌≢◌, ◌∙◌, [], Some, slice_index, slice_index_or, ap, arith, get_or-set_other}
use Rattle.std.proofs.lemmas.Option.{get_or_from_slice_get}
use Rattle.chacha_base.specs.ChaCha.{xor_stream}
use Rattle.chacha_base.proofs.ListLemmas.{one_more}
use Rattle.chacha_base.proofs.cipher.cores.apply_group.Goals as goal

pub loop-i-preserved : goal.loop-i-preserved
loop-i-preserved g c =
    let i = c.loop-i.i in
    let now = c.loop-i.blocks in
    let before = c.loop-i.invariant in
    record {
      done = one_more _ i now c.xor_bytes.new.output (omega arith)
          (c.xor_bytes.ensures ∙ ap (xor_stream _ 0) (before.rest i (omega arith))) before.done;
      rest = λ k above. let apart : k ≢ i = omega arith in get_or-set_other now i k c.xor_bytes.new.output [] apart
          ∙ before.rest k (omega arith);
    }

pub returns-clause-blocks : goal.returns-clause-blocks
returns-clause-blocks g c = λ i less.
    c.loop-i.invariant.done i (omega arith)
    ∙ ap (λ key. Some (xor_stream (slice_index key) 0 (slice_index_or c.args.blocks.now i [])))
    (get_or_from_slice_get _ i _ [] (c.write_keystream_blocks.ensures.blocks i (omega arith)))
