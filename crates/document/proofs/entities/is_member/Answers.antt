-- `is_member`: what the library finds is what the definition finds.
use Rattle.std.proofs.Common.{◌∙◌}
use Rattle.packed.proofs.Laws.Member.{contains_member}
use Rattle.document.proofs.entities.is_member.Goals as goal

pub returns : goal.returns
returns c = c.contains.ensures.value ∙ contains_member c.args.e c.args.some.now
