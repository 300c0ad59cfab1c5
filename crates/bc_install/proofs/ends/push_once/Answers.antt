use Rattle.bc_install.proofs.Each.{not_there, with_pushed}
use Rattle.bc_install.proofs.ends.push_once.Goals as goal

pub returns : goal.returns
returns c = with_pushed c.args.number c.args.list.now.items c.push.new.self.items
    (not_there c.args.list.now.items c.deref.result.now c.args.number c.deref.ensures.value
    c.if-is_in.ensures) c.in_ok-push.ensures.items
