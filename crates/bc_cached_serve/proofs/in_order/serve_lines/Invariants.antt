use Rattle.std.proofs.Common.{◌≡◌, ◌≤◌, length, take}
use Rattle.std.specs.Prelude.{All, vec_capacity}
use Rattle.bc_script.specs.Answer.{IsPrintable}
use Rattle.bc_cached_serve.specs.Served.{HaveAnswered}
use Rattle.bc_cached_serve.specs.Worker.{IsReady}
use Rattle.bc_cached_serve.proofs.in_order.serve_lines.Given as goal

-- the lines so far are served
abbrev pub invariant-loop-index : goal.invariant-loop-index
invariant-loop-index g l = IsReady g.C.Disk.facts g.B.Disk.facts l.parts l.seat
    × (length l.lines ≤ vec_capacity l.answers) × (length l.answers.items ≡ l.index)
    × All IsPrintable l.answers.items
    × HaveAnswered g.C.Disk.facts g.B.Disk.facts l.parts l.size (take l.index l.lines)
    l.answers.items l.initial.seat l.seat
