-- The laws.
use Rattle.bc_chained.specs.Laws.{LawBehind, LawChain}
use Rattle.bc_chained.proofs.Behind.{none_behind}
use Rattle.bc_chained.proofs.Sealing.{asks, can, sealed, stands}

pub law_chain : LawChain
law_chain x o i p g records new h = record {
  can = can x o i p g records new h;
  asks = asks x o i p g records new h;
  stands = stands x o i p g records new h;
  sealed = sealed x o i p g records new h;
}

pub law_behind : LawBehind
law_behind x o g q is on divided before past = none_behind x o g q is on divided before past
