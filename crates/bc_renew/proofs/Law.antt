-- The laws.
use Rattle.bc_renew.specs.Laws.{LawGo, LawRaise, LawReady}
use Rattle.bc_renew.proofs.Core.{may_ready, ready_after}
use Rattle.bc_renew.proofs.Going.{can_go}
use Rattle.bc_renew.proofs.Raising.{may_raise, raise_stands}

pub law_raise : LawRaise
law_raise x o p i n h may = record {
  may = may_raise x o h.origin h.course p h.stand i n may;
  stands = raise_stands x o h.origin h.course p h.stand i n may;
}

pub law_go : LawGo
law_go x o p i named new h may = can_go x o h.origin h.course p h.stand i named new may

pub law_ready : LawReady
law_ready x o p i named new back listed h may back_is listed_is = record {
  may = may_ready x o h.origin h.course p h.stand i named new may back back_is listed listed_is;
  stands = ready_after x o h.origin h.course p h.stand i named new may back back_is listed
      listed_is;
}
