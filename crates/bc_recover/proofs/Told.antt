-- What the table of uses says of a bucket.
use Rattle.std.proofs.Common.{◌≡◌, ℕ, ◌<◌, List, get_or, refl, sym, subst, arith}
use Rattle.std.specs.Prelude.{Result, Ok, Err, IfOk}
use Rattle.std.proofs.lemmas.List.{get_or_default}
use Rattle.std.proofs.lemmas.List.Elements.{All-weaker}
use Rattle.bc_alloc.specs.Reserves.{Reserves}
use Rattle.bc_disk.specs.declared.geometry.Geometry.{Geometry}
use Rattle.bc_image.specs.Reading.{Reading}
use Rattle.bc_image.specs.Uses.{IsSpare, Super, Journal, Priority, Uuid, Node, Data}
use Rattle.bc_replay.specs.Survey.{IsUsedAs, TellsUses}
use Rattle.bc_replay.specs.declared.uses.Use.{Use}
use Rattle.bc_replay.specs.declared.uses.Use.TheVariants as uses
use Rattle.bc_recover.specs.Spare.{AreFilled, HasReserves, IsUnused}

module _ (g : Geometry) (r : Reading) (table : List Use) (tells : TellsUses g r table) where
  told : (bucket : ℕ) → bucket < g.nbuckets → IsUsedAs g r bucket (get_or table bucket uses.Super)
  told bucket low = subst (IsUsedAs g r bucket) (sym (get_or_default table bucket uses.Super uses.None (omega (arith, tells.each)))) (tells.told bucket low)

  to_spare : (bucket : ℕ) → bucket < g.nbuckets → IsUnused table bucket → IsSpare g r bucket
  to_spare bucket low is = (low, subst (IsUsedAs g r bucket) is (told bucket low))

  from_spare : (bucket : ℕ) → IsSpare g r bucket → IsUnused table bucket
  from_spare bucket spare = go (get_or table bucket uses.Super) (told bucket spare.0)
    where
      go : (kind : Use) → IsUsedAs g r bucket kind → kind ≡ uses.None
      go uses.None used = refl
      go uses.Super used = absurd (spare.1 Super used)
      go uses.Journal used = absurd (spare.1 Journal used)
      go uses.Priority used = absurd (spare.1 Priority used)
      go uses.Uuid used = absurd (spare.1 Uuid used)
      go uses.Node used = absurd (spare.1 Node used)
      go uses.Data used = absurd (spare.1 Data used)

  pub told_reserves : (reserves : Reserves) → AreFilled (IsUnused table) g reserves → HasReserves g r reserves
  told_reserves reserves filled = record {
    spare = filled.spare;
    are = record {
      order = filled.are.order;
      each = All-weaker (λ k. (k < g.nbuckets) × IsUnused table k) (λ k. (k < g.nbuckets) × IsSpare g r k) (λ k h. (h.0, to_spare k h.0 h.1)) filled.spare filled.are.each;
      all = λ k low spare. filled.are.all k low (from_spare k spare);
    };
    filled = filled.filled;
  }

pub if_ok : {A E : Type 0} (P Q : A → Type 0) (r : Result A E) → ((a : A) → P a → Q a) → IfOk r P → IfOk r Q
if_ok P Q (Ok a) f p = f a p
if_ok P Q (Err e) f p = tt
