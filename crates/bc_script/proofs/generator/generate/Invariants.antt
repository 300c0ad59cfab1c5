use Rattle.std.proofs.Common.{◌≡◌, ◌<◌, ◌^◌}
use Rattle.bc_script.specs.Generator.{drawn, generated}
use Rattle.bc_script.proofs.generator.generate.Given as goal

abbrev pub invariant-loop-made : goal.invariant-loop-made
invariant-loop-made l = record {
  lines : l.lines.items ≡ generated l.start l.workers l.size l.made;
  number : l.number ≡ drawn l.start l.made;
  small : l.number < 2 ^ 32;
}
