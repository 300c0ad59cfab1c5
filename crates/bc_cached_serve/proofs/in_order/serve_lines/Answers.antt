use Rattle.std.proofs.Common.{◌≡◌, suc, get_or, ◌+◌, ◌++◌, ◌∷◌, [], List, drop, length, take, sym, ap, ◌∙◌, subst, arith, append_assoc, length-append}
use Rattle.std.specs.Prelude.{All}
use Rattle.std.proofs.lemmas.List.{length-take-le, take-append-drop}
use Rattle.std.proofs.lemmas.List.Elements.{All-nil, All-push}
use Rattle.std.proofs.Math.Seq.{take-suc}
use Rattle.bc_script.specs.Answer.{IsPrintable}
use Rattle.bc_script.specs.declared.answer.Answer.{Answer}
use Rattle.bc_script.specs.declared.line.Line.{Line}
use Rattle.bc_script.specs.declared.line.Line.TheVariants.{Silent}
use Rattle.bc_cached_serve.specs.Served.{HaveAnswered}
use Rattle.bc_cached_serve.proofs.Order.{more_answered, none_answered, stopped_at}
use Rattle.bc_cached_serve.proofs.in_order.serve_lines.Goals as goal

pub loop-index-init : goal.loop-index-init
loop-index-init g c = (
  c.requires.ready,
  c.requires.room,
  ap (λ (answers : List Answer). length answers) c.requires.none,
  subst (All IsPrintable) (sym c.requires.none) (All-nil IsPrintable),
  subst (λ (answers : List Answer). HaveAnswered g.C.Disk.facts g.B.Disk.facts c.args.parts.now
      c.args.size [] answers c.args.seat.now c.args.seat.now) (sym c.requires.none)
      (none_answered g.C.Disk.facts g.B.Disk.facts c.args.parts.now c.args.size c.args.seat.now),
)

pub loop-index-preserved : goal.loop-index-preserved
loop-index-preserved g c =
    let h = c.loop-index.invariant in
    let inside = c.loop-index-test.true in
    let lines = c.args.lines.now in
    let i = c.loop-index.index in
    let zero : Line = Silent in
    let line = get_or lines i zero in
    let answer = c.in-Ok.answer in
    let long : length (take i lines) ≡ i = length-take-le i lines (omega arith) in
    let one : i + 1 ≡ suc i = omega arith in
    let number : i + 1 ≡ suc (length (take i lines)) = omega arith in
    let served = more_answered g.C.Disk.facts g.B.Disk.facts c.args.parts.now c.args.size (i + 1)
    (take i lines) c.loop-index.answers.items line answer c.args.seat.now c.loop-index.seat
    c.serve_line.new.seat number h.4 c.in-Ok.ensures.ok in (
      c.serve_line.ensures.ready,
      omega (arith, c.push_reserved.ensures.capacity, h.1),
      ap (λ (xs : List Answer). length xs) c.push_reserved.ensures.items
          ∙ length-append c.loop-index.answers.items (answer ∷ []) ∙ ap (λ n. n + 1) h.2,
      subst (All IsPrintable) (sym {A = List Answer} c.push_reserved.ensures.items)
          (All-push IsPrintable c.loop-index.answers.items answer h.3 c.in-Ok.ensures.printable),
      subst (λ (ls : List Line). HaveAnswered g.C.Disk.facts g.B.Disk.facts c.args.parts.now
          c.args.size ls c.push_reserved.new.self.items c.args.seat.now c.serve_line.new.seat)
          (sym (ap (λ k. take k lines) one ∙ take-suc lines i zero inside))
          (subst (λ (answers : List Answer). HaveAnswered g.C.Disk.facts g.B.Disk.facts
          c.args.parts.now c.args.size (take i lines ++ line ∷ []) answers c.args.seat.now
          c.serve_line.new.seat) (sym {A = List Answer} c.push_reserved.ensures.items) served),
    )

pub returns-in-Err-clause-served : goal.returns-in-Err-clause-served
returns-in-Err-clause-served g c =
    let h = c.loop-index.invariant in
    let lines = c.args.lines.now in
    let i = c.loop-index.index in
    let zero : Line = Silent in
    let line = get_or lines i zero in
    let long : length (take i lines) ≡ i = length-take-le i lines (omega arith) in
    let number : i + 1 ≡ suc (length (take i lines)) = omega arith in
    let all : lines ≡ take i lines ++ line ∷ drop (suc i) lines =
    sym (take-append-drop (suc i) lines)
    ∙ ap (λ (ls : List Line). ls ++ drop (suc i) lines)
    (take-suc lines i zero c.loop-index-test.true)
    ∙ append_assoc (take i lines) (line ∷ []) (drop (suc i) lines) in
    stopped_at g.C.Disk.facts g.B.Disk.facts c.args.parts.now c.args.size
    (record { line = i + 1; why = c.in-Err.why }) lines (take i lines) (drop (suc i) lines)
    c.loop-index.answers.items line c.args.seat.now c.loop-index.seat c.serve_line.new.seat all
    number h.4 c.in-Err.ensures.err
