use Rattle.std.proofs.Common.{◌≡◌, ◌/◌, ◌≤◌, List, [], ◌++◌, length, Option, subst, arith}
use Rattle.std.specs.Prelude.{MatchOption}
use Rattle.bc_model.specs.Sector.{Value, values_of}
use Rattle.bc_model.proofs.Sectors.{length_values_of}
use Rattle.bc_job.proofs.Looping.{last_is_all}
use Rattle.bc_job.proofs.read.values_with.Goals as goal

pub returns-in-Some : goal.returns-in-Some
returns-in-Some c =
    let items = c.args.bytes.items in
    let last = subst (λ (o : Option (List Value)). MatchOption o (values_of items ≡ []) (λ own. (before : List Value)
    × (1 ≤ length own) × (values_of items ≡ before ++ own))) c.in-Some.is c.requires.last in
    let long : length c.in-Some.own ≡ length items / 512 = omega (arith, c.len.ensures, c.if-len.true, c.args.bytes.ok) in
    last_is_all (values_of items) last.0 c.in-Some.own (length items / 512) last.2 (length_values_of items) long
