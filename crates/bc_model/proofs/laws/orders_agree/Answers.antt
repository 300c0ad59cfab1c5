use Rattle.bc_model.proofs.Orders.{now_agrees, legal_agrees}
use Rattle.bc_model.proofs.laws.orders_agree.Goals as goal

pub returns : goal.returns
returns c = record { now = now_agrees; legal = legal_agrees }
