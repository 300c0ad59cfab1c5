use Rattle.std.proofs.Common.{◌≡◌, ◌+◌, ◌<◌, ◌^◌, ◌++◌, ◌∷◌, [], List, reverse, Option, Some, set, sym, ap, ◌∙◌, subst, arith}
use Rattle.bc_mode.specs.Streak.{IsBehind, capped, extended, streak_after, tail_after}
use Rattle.bc_mode.specs.declared.streak.Request.{Request}
use Rattle.bc_mode.specs.declared.streak.Tail.{Tail}
use Rattle.bc_mode.proofs.Tails.{behind_more, extended_is}
use Rattle.bc_mode.proofs.streak.Streaks.next.Goals as goal

answer : (c : goal.After-from) (earlier : List Request) → IsBehind earlier c.self.inside.tails → c.extended-streak.result ≡ capped (streak_after (reverse earlier) c.args.request)
answer c earlier behind =
    let place : c.from-place.result < 16 = omega arith in
    let next : c.from-place.result + 1 ≡ c.args.request.worker = omega arith in
    let small : c.args.request.count < 2 ^ 32 = omega arith in
    let tail = behind.1 c.from-place.result place ∙ ap (λ w. tail_after (reverse earlier) w) next in
    c.extended-streak.ensures ∙ ap (λ (t : Option Tail). extended t c.args.request.first c.args.request.count) tail ∙ extended_is (reverse earlier) c.args.request small

pub returns-clause-streak : goal.returns-clause-streak
returns-clause-streak c = λ earlier behind. answer c earlier (subst (λ (tails : List (Option Tail)). IsBehind earlier tails) (sym c.self.view_is) behind)

pub returns-clause-behind : goal.returns-clause-behind
returns-clause-behind c = λ earlier behind.
    let inside = subst (λ (tails : List (Option Tail)). IsBehind earlier tails) (sym c.self.view_is) behind in
    let place : c.from-place.result < 16 = omega arith in
    let next : c.from-place.result + 1 ≡ c.args.request.worker = omega arith in
    subst (λ n. IsBehind (earlier ++ c.args.request ∷ []) (set c.self.inside.tails c.from-place.result (Some (record { end = c.args.request.first + n; streak = c.extended-streak.result }))))
    (sym c.from.ensures)
    (behind_more earlier c.self.inside.tails c.args.request c.from-place.result c.extended-streak.result inside next place (answer c earlier inside))
