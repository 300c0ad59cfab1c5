use Rattle.std.proofs.Common.{◌≡◌, Some, rules}
use Rattle.bc_begun.specs.bc_machine.declared.part.CorePart.TheVariants as part
use Rattle.bc_cached.proofs.Places.{fifth}
use Rattle.bc_cached.proofs.run.devices_in.Goals as goal

pub unreachable-requires-in_default-pop : goal.unreachable-requires-in_default-pop
unreachable-requires-in_default-pop g c =
    let has = c.requires in
    let is : c.pop-2.result ≡ Some (part.Cache has.0) = fifth has.2.0 has.2.1 has.2.2 has.2.3
    (part.Cache has.0) (part.Backing has.1) has.2.0 has.2.4 c.args.parts.items
    c.truncate.new.self.items c.pop.new.self.items c.pop-2.result _ _ has.2.5
    c.truncate.ensures.items c.truncate.new.self.ok.0 c.pop.ensures.rest c.pop.new.self.ok.0
    (c.pop-2.ensures.value has.2.0) in search rules
