use Rattle.std.proofs.Common.{◌≡◌, ap, ◌∙◌}
use Rattle.bc_extent.specs.LastKey.{last_key}
use Rattle.bc_extent.proofs.Outcomes.{found_covers, none_is}
use Rattle.bc_plain.proofs.vector.PlainExtents.lookup.Goals as goal

last : (c : goal.After-key_at) → c.key_at.result ≡ last_key c.args.self.now.keys c.args.sector
last c = c.key_at.ensures ∙ ap (λ keys. last_key keys c.args.sector) (c.deref.ensures.value ∙ ap (λ e. e.keys) c.self.view_is)

pub returns-clause-covers : goal.returns-clause-covers
returns-clause-covers c = found_covers c.args.self.now.keys c.args.sector c.key_at.result (last c)

pub returns-clause-none : goal.returns-clause-none
returns-clause-none c = none_is c.args.self.now.keys c.args.sector c.key_at.result (last c)
