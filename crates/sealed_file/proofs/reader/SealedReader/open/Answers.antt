use Rattle.std.proofs.Common.{◌≡◌, Some, take, arith, subst}
use Rattle.sealed_file.proofs.RangeLemmas.{number-within, opened-size}
use Rattle.sealed_file.proofs.ListLemmas.{for_some, passed-on}
use Rattle.sealed_file.specs.Ranges.{HasChunk, IsZeroFrom, text_size}
use Rattle.sealed_file.specs.Sealed.{text_of}
use Rattle.sealed_file.specs.SealedReader.{file}
use Rattle.sealed_file.proofs.reader.SealedReader.open.Goals as goal

pub returns-in-Some-clause-right : goal.returns-in-Some-clause-right
returns-in-Some-clause-right g c =
    let self = c.args.self.now in
    let size : text_size (text_of self.len) c.args.number ≡ c.min.result =
    omega (arith, c.min.ensures, c.text_len.ensures.value) in
    subst (λ n. HasChunk (file self) c.args.number (take n self.buf.now)) size
    (subst (λ i. HasChunk (file self) i (take (text_size (text_of self.len) i) self.buf.now)) c.if-held-number.true
    (self.right c.in-Some.held c.in-Some.is))

pub load-requires-clause-len : goal.load-requires-clause-len
load-requires-clause-len g c = λ all known. (c.args.self.now.begins all known).0

pub returns-in_err-len-clause-damaged : goal.returns-in_err-len-clause-damaged
returns-in_err-len-clause-damaged g c damage is =
    c.in_err-len.ensures.damaged damage (passed-on c.from_residual.result _ _ c.from_residual.ensures.1 is)

pub load-requires-clause-number : goal.load-requires-clause-number
load-requires-clause-number g c = number-within c.args.number c.args.self.now.len c.requires

pub returns-clause-size : goal.returns-clause-size
returns-clause-size g c =
    let self = c.args.self.now in
    opened-size self.len c.args.number c.in_ok-len.len self.whole c.requires c.in_ok-len.ensures.size

pub invariant_of-self-2-clause-right : goal.invariant_of-self-2-clause-right
invariant_of-self-2-clause-right g c =
    let self = c.args.self.now in
    for_some (Some c.args.number)
    (λ i. HasChunk (file self) i (take (text_size (text_of self.len) i) c.load.new.buf))
    (subst (λ n. HasChunk (file self) c.args.number (take n c.load.new.buf))
    (opened-size self.len c.args.number c.in_ok-len.len self.whole c.requires c.in_ok-len.ensures.size)
    c.in_ok-len.ensures.right)

pub invariant_of-self-2-clause-lent : goal.invariant_of-self-2-clause-lent
invariant_of-self-2-clause-lent g c =
    let self = c.args.self.now in
    subst (λ n. IsZeroFrom n c.load.new.buf)
    (opened-size self.len c.args.number c.in_ok-len.len self.whole c.requires c.in_ok-len.ensures.size)
    c.in_ok-len.ensures.rest
