-- The new nodes of a plan rise: each is another one than those before it, and leaves come first.
use Rattle.std.proofs.Common.{◌≡◌, ℕ, suc, ◌<◌, ◌≤◌, Bool, true, false, List, [], ◌∷◌, ◌++◌, refl, sym, ap, ◌∙◌, subst, arith, append_assoc, if◌then◌else◌}
use Rattle.bc_new_nodes.specs.Course.{AreOnce, Differs}
use Rattle.bc_planned.specs.Nodes.{are_under, comes_behind, nodes_by, nodes_of, when}
use Rattle.bc_plan.specs.declared.write.NewNode.{NewNode}
use Rattle.bc_plan.specs.declared.write.NewNode.TheVariants.{Behind, First, Lowest, Parent, Root, Second}
use Rattle.bc_tree.specs.declared.beside.Beside.{Beside}
use Rattle.bc_tree.specs.declared.beside.Beside.TheVariants.{Comes, Goes, Moves, Stays, Under}
use Rattle.bc_tree.specs.declared.plan.Plan.{Plan}

-- by whether two come below a new root
abbrev pub rank : Bool → NewNode → ℕ
rank under First = 0
rank under Second = 1
rank under Lowest = 2
rank under Behind = if under then 3 else 5
rank under Parent = 4
rank under Root = 6

abbrev pub Rising : Bool → ℕ → List NewNode → Type 0
Rising under k [] = Unit {0}
Rising under k (n ∷ ns) = (k ≤ rank under n) × Rising under (suc (rank under n)) ns

lower : (under : Bool) (j k : ℕ) (ns : List NewNode) → j ≤ k → Rising under k ns → Rising under j ns
lower under j k [] less h = tt
lower under j k (n ∷ ns) less h = ((let at = h.0 in omega (arith, less, at)), h.1)

rise : (under b : Bool) (k : ℕ) (m : NewNode) (ns : List NewNode) → k ≤ rank under m
    → Rising under (suc (rank under m)) ns → Rising under k (when b m ++ ns)
rise under true k m ns at h = (at, h)
rise under false k m ns at h = lower under k (suc (rank under m)) ns (omega (arith, at)) h

last : (under b : Bool) (k : ℕ) (m : NewNode) → k ≤ rank under m → Rising under k (when b m)
last under true k m at = (at, tt)
last under false k m at = tt

abbrev turned : (second under parent behind root : Bool) → List NewNode
turned s u pa be ro = (First ∷ []) ++ (when s Second ++ (when u Lowest ++ (when u Behind
    ++ (when pa Parent ++ (when be Behind ++ when ro Root)))))

turn : (s u pa be ro : Bool) → nodes_by s u pa be ro ≡ turned s u pa be ro
turn s u pa be ro =
    let x1 = First ∷ [] in let x2 = x1 ++ when s Second in let x3 = x2 ++ when u Lowest in
    let x4 = x3 ++ when u Behind in let x5 = x4 ++ when pa Parent in
    let y5 = when be Behind ++ when ro Root in let y4 = when pa Parent ++ y5 in
    let y3 = when u Behind ++ y4 in let y2 = when u Lowest ++ y3 in
    append_assoc x5 (when be Behind) (when ro Root) ∙ append_assoc x4 (when pa Parent) y5
    ∙ append_assoc x3 (when u Behind) y4 ∙ append_assoc x2 (when u Lowest) y3
    ∙ append_assoc x1 (when s Second) y2

rising_by : (s u pa be ro : Bool) → (u ≡ true → be ≡ false) → Rising u 0 (turned s u pa be ro)
rising_by s true pa true ro apart = absurd (let e : true ≡ false = apart refl in cc)
rising_by s true pa false ro apart = (
  omega arith,
  rise true s 1 Second _ (omega arith) (
    omega arith,
    (
      omega arith,
      rise true pa 4 Parent (when ro Root) (omega arith)
          (last true ro 5 Root (omega arith)),
    ),
  ),
)
rising_by s false pa be ro apart = (
  omega arith,
  rise false s 1 Second _ (omega arith)
      (rise false pa 2 Parent _ (omega arith) (rise false be 5 Behind _ (omega arith)
      (last false ro 6 Root (omega arith)))),
)

under_apart : (b : Beside) → are_under b ≡ true → comes_behind b ≡ false
under_apart Stays is = refl
under_apart (Comes node) is = absurd (cc)
under_apart (Moves node) is = absurd (cc)
under_apart Goes is = refl
under_apart (Under low high) is = refl

pub rising : (p : Plan) → Rising (are_under p.beside) 0 (nodes_of p)
rising p = subst (Rising (are_under p.beside) 0) (sym (turn _ _ _ _ _))
    (rising_by _ (are_under p.beside) _ (comes_behind p.beside) _ (under_apart p.beside))

-- ---- so they differ

pub differs_by : (under : Bool) (n : NewNode) (k : ℕ) (ns : List NewNode) → rank under n < k
    → Rising under k ns → Differs n ns
differs_by under n k [] less h = tt
differs_by under n k (m ∷ ns) less h =
    let at = h.0 in (
      λ same. let e = ap (rank under) same in absurd (omega (arith, less, at, e)),
      differs_by under n (suc (rank under m)) ns (omega (arith, less, at)) h.1,
    )

pub once_by : (under : Bool) (k : ℕ) (ns : List NewNode) → Rising under k ns → AreOnce ns
once_by under k [] h = tt
once_by under k (n ∷ ns) h = (
  differs_by under n (suc (rank under n)) ns (omega arith) h.1,
  once_by under (suc (rank under n)) ns h.1,
)

-- before another one comes the first leaf alone
pub first_rank : (under : Bool) (n : NewNode) → rank under n < 1 → n ≡ First
first_rank under First less = refl
first_rank under Second less = absurd (omega (arith, less))
first_rank under Lowest less = absurd (omega (arith, less))
first_rank true Behind less = absurd (omega (arith, less))
first_rank false Behind less = absurd (omega (arith, less))
first_rank under Parent less = absurd (omega (arith, less))
first_rank under Root less = absurd (omega (arith, less))
