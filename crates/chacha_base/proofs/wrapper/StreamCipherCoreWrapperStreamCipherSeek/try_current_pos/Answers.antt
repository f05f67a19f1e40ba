use Rattle.std.proofs.Common.{ap}
use Rattle.chacha_base.proofs.wrapper.StreamCipherCoreWrapperStreamCipherSeek.try_current_pos.Goals as goal

-- answered for speed
pub returns-clause-accepted : goal.returns-clause-accepted
returns-clause-accepted g c = rw (ap (λ v. v.position) c.self.view_is) at c.from_position.ensures.accepted

pub returns-clause-value : goal.returns-clause-value
returns-clause-value g c = rw (ap (λ v. v.position) c.self.view_is) at c.from_position.ensures.value
