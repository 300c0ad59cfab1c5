use Rattle.std.proofs.Common.{◌≡◌, suc, get_or, ◌+◌, ◌++◌, ◌∷◌, [], List, length, take, sym, ap, ◌∙◌, subst, arith, length-append}
use Rattle.std.specs.Prelude.{All}
use Rattle.std.proofs.lemmas.List.{length-take-le}
use Rattle.std.proofs.lemmas.List.Elements.{All-nil, All-push}
use Rattle.std.proofs.Math.Seq.{take-suc}
use Rattle.bc_job.proofs.Ready.{idle_of, ready_begin}
use Rattle.bc_script.specs.Answer.{IsPrintable}
use Rattle.bc_script.specs.declared.answer.Answer.{Answer}
use Rattle.bc_script.specs.declared.line.Line.{Line}
use Rattle.bc_script.specs.declared.line.Line.TheVariants.{Silent}
use Rattle.bc_serve.specs.Run.{HaveAnswered}
use Rattle.bc_serve.proofs.Lines.{more_answered, none_answered}
use Rattle.bc_serve.proofs.in_order.serve_lines.Goals as goal

pub loop-index-init : goal.loop-index-init
loop-index-init g c = (
  ready_begin g.C.Disk.facts g.B.Disk.facts c.args.parts.now c.args.seat.now c.empty-stock.result
      c.empty-stock.ensures.hand c.empty-stock.ensures.room c.requires.idle,
  c.requires.room,
  ap (λ (answers : List Answer). length answers) c.requires.none,
  subst (All IsPrintable) (sym c.requires.none) (All-nil IsPrintable),
  subst (λ (answers : List Answer). HaveAnswered g.C.Disk.facts g.B.Disk.facts c.args.size [] answers
      c.args.seat.now c.args.seat.now) (sym c.requires.none)
      (none_answered g.C.Disk.facts g.B.Disk.facts c.args.size c.args.seat.now c.requires.idle.works.seat),
)

pub returns-clause-idle : goal.returns-clause-idle
returns-clause-idle g c = idle_of g.C.Disk.facts g.B.Disk.facts c.args.parts.now c.loop-index.seat
    c.loop-index.stock c.loop-index.invariant.0

pub loop-index-preserved : goal.loop-index-preserved
loop-index-preserved g c =
    let h = c.loop-index.invariant in
    let inside = c.loop-index-test.true in
    let lines = c.args.lines.now in
    let i = c.loop-index.index in
    let zero : Line = Silent in
    let line = get_or lines i zero in
    let long : length (take i lines) ≡ i = length-take-le i lines (omega arith) in
    let one : i + 1 ≡ suc i = omega arith in
    let number : i + 1 ≡ suc (length (take i lines)) = omega arith in
    let served = more_answered g.C.Disk.facts g.B.Disk.facts c.args.size (i + 1) (take i lines)
    c.loop-index.answers.items line c.serve_line.result c.args.seat.now c.loop-index.seat c.serve_line.new.seat
    number h.4 c.serve_line.ensures.serves in (
      c.serve_line.ensures.ready,
      omega (arith, c.push_reserved.ensures.capacity, h.1),
      ap (λ (answers : List Answer). length answers) c.push_reserved.ensures.items
          ∙ length-append c.loop-index.answers.items (c.serve_line.result ∷ []) ∙ ap (λ n. n + 1) h.2,
      subst (All IsPrintable) (sym c.push_reserved.ensures.items)
          (All-push IsPrintable c.loop-index.answers.items c.serve_line.result h.3 c.serve_line.ensures.printable),
      subst (λ (ls : List Line). HaveAnswered g.C.Disk.facts g.B.Disk.facts c.args.size ls
          c.push_reserved.new.self.items c.args.seat.now c.serve_line.new.seat)
          (sym (ap (λ k. take k lines) one ∙ take-suc lines i zero inside))
          (subst (λ (answers : List Answer). HaveAnswered g.C.Disk.facts g.B.Disk.facts c.args.size
          (take i lines ++ line ∷ []) answers c.args.seat.now c.serve_line.new.seat)
          (sym c.push_reserved.ensures.items) served),
    )
