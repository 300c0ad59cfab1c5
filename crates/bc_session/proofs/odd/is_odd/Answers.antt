use Rattle.std.proofs.Common.{arith, inl, inr}
use Rattle.bc_resume.proofs.Held.{not_empty}
use Rattle.bc_session.proofs.odd.is_odd.Goals as goal

pub last_entry-newest-requires : goal.last_entry-newest-requires
last_entry-newest-requires c = not_empty c.requires.0 c.args.read.now.all c.args.read.now.entries
    c.requires.1

pub returns-then-not-has_level : goal.returns-then-not-has_level
returns-then-not-has_level c = let last = c.last_entry-newest.ensures in record {
  older = last.0;
  newest = c.last_entry-newest.result.now;
  parts = last.1;
  odd = inl c.if-not-has_level.ensures;
}

pub returns-then-newest-eq0 : goal.returns-then-newest-eq0
returns-then-newest-eq0 c = let last = c.last_entry-newest.ensures in record {
  older = last.0;
  newest = c.last_entry-newest.result.now;
  parts = last.1;
  odd = inr (omega (arith, c.if-newest-eq0.true));
}
