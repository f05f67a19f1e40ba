use Rattle.std.proofs.Common.{ap, ◌∙◌}
use Rattle.chacha_base.specs.ChaCha.{keystream, xor_stream}
use Rattle.chacha_base.proofs.BufferedLemmas.{at-begun, xor_stream-begun}
use Rattle.chacha_base.proofs.wrapper.StreamCipherCoreWrapper.apply_begun.Goals as goal

pub returns-clause-bytes : goal.returns-clause-bytes
returns-clause-bytes g c =
    c.xor_bytes.ensures
    ∙ xor_stream-begun c.self.invariant (ap (λ v. v.position) c.self.view_is) c.args.bytes.now c.requires
    ∙ ap (λ f. xor_stream (keystream g.C.Keystream.modulus (g.C.Keystream.block_at f)) c.args.self.now.position
    c.args.bytes.now) (ap (λ v. v.fixed) c.self.view_is)

pub invariant_of-self : goal.invariant_of-self
invariant_of-self g c =
    at-begun c.self.invariant (ap (λ v. v.position) c.self.view_is) c.requires c.xor_bytes.auto.output
