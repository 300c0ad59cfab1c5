use Rattle.std.proofs.Common.{◌≡◌, ℕ, List, ◌∷◌, [], length, take, drop, inr, sym, ap, ◌∙◌, lit<, subst, arith}
use Rattle.std.proofs.lemmas.Result.{on_ok_weaker, on_err_weaker}
use Rattle.std.proofs.lemmas.List.{length-take-le}
use Rattle.bc_model.specs.Sector.{Value, values_of}
use Rattle.bc_model.proofs.Sectors.{one_sector}
use Rattle.bc_disk.specs.Disk.{DiskFacts, IsFailedWrite}
use Rattle.bc_super.specs.Writing.{IsStored, IsLastTorn}
use Rattle.bc_super.proofs.Sectors.{cache_stored_again, five_values, large}
use Rattle.bc_super.proofs.Stores.{then_second_store, stored_both, last_torn}
use Rattle.bc_super.proofs.cache.write_cache.Goals as goal

pub store-requires : goal.store-requires
store-requires g c =
    let many = large (g.D.Disk.facts c.args.disk.now).sectors c.args.s.now c.requires in
    let whole = c.encode-bytes.ensures.whole in
    (4, lit< tt, omega arith, omega arith)

pub store-requires-2 : goal.store-requires-2
store-requires-2 g c =
    let many = large (g.D.Disk.facts c.args.disk.now).sectors c.args.s.now c.requires in
    let same = c.in_ok-store.ensures.ok.sectors in
    (1, lit< tt, omega arith, omega arith)

-- the four sectors behind the first one, and then the first one
module _ (old mid new : DiskFacts) (bytes first rest : List ℕ) (whole : length bytes ≡ 2560) (front : first ≡ take 512 bytes) (back : rest ≡ drop 512 bytes) (one : IsStored 9 (values_of rest) old mid) where
  first_value : values_of first ≡ take 512 bytes ∷ []
  first_value = ap values_of front ∙ one_sector (take 512 bytes) (length-take-le 512 bytes (omega arith))

  rest_stored : IsStored 9 (values_of (drop 512 bytes)) old mid
  rest_stored = subst (λ (b : List ℕ). IsStored 9 (values_of b) old mid) back one

  all_stored : IsStored 8 (values_of first) mid new → IsStored 8 (values_of bytes) old new
  all_stored two =
      let last : IsStored 8 (take 512 bytes ∷ []) mid new = subst (λ (vs : List Value). IsStored 8 vs mid new) first_value two in
      let both : IsStored 8 (take 512 bytes ∷ values_of (drop 512 bytes)) old new = stored_both 8 (take 512 bytes) (values_of (drop 512 bytes)) old mid new rest_stored last in
      subst (λ (vs : List Value). IsStored 8 vs old new) (sym (five_values bytes whole)) both

  first_torn : IsFailedWrite 8 (values_of first) mid new → IsLastTorn 8 (values_of (drop 512 bytes)) (take 512 bytes) old new
  first_torn two =
      let last : IsFailedWrite 8 (take 512 bytes ∷ []) mid new = subst (λ (vs : List Value). IsFailedWrite 8 vs mid new) first_value two in
      last_torn 8 (take 512 bytes) (values_of (drop 512 bytes)) old mid new rest_stored last

pub returns-clause-ok : goal.returns-clause-ok
returns-clause-ok g c =
    let old = g.D.Disk.facts c.args.disk.now in
    let mid = g.D.Disk.facts c.store.new.disk in
    let new = g.D.Disk.facts c.store-2.new.disk in
    let bytes = c.encode-bytes.result in
    on_ok_weaker c.store-2.result (λ two. (
      bytes,
      c.encode-bytes.ensures,
      all_stored old mid new bytes c.split_at.result.0.now c.split_at.result.1.now c.encode-bytes.ensures.whole c.split_at.ensures.front c.split_at.ensures.back c.in_ok-store.ensures.ok two,
    )) c.store-2.ensures.ok

pub returns-clause-failed : goal.returns-clause-failed
returns-clause-failed g c =
    let old = g.D.Disk.facts c.args.disk.now in
    let mid = g.D.Disk.facts c.store.new.disk in
    let new = g.D.Disk.facts c.store-2.new.disk in
    let bytes = c.encode-bytes.result in
    on_err_weaker c.store-2.result (λ two. (
      bytes,
      c.encode-bytes.ensures,
      inr (first_torn old mid new bytes c.split_at.result.0.now c.split_at.result.1.now c.encode-bytes.ensures.whole c.split_at.ensures.front c.split_at.ensures.back c.in_ok-store.ensures.ok two),
    )) c.store-2.ensures.failed

pub returns-clause-reads : goal.returns-clause-reads
returns-clause-reads g c =
    let old = g.D.Disk.facts c.args.disk.now in
    let mid = g.D.Disk.facts c.store.new.disk in
    let new = g.D.Disk.facts c.store-2.new.disk in
    let bytes = c.encode-bytes.result in
    on_ok_weaker c.store-2.result (λ two. cache_stored_again old new c.args.s.now bytes c.encode-bytes.ensures c.requires
    (all_stored old mid new bytes c.split_at.result.0.now c.split_at.result.1.now c.encode-bytes.ensures.whole c.split_at.ensures.front c.split_at.ensures.back c.in_ok-store.ensures.ok two)) c.store-2.ensures.ok

pub returns-clause-counted : goal.returns-clause-counted
returns-clause-counted g c =
    let old = g.D.Disk.facts c.args.disk.now in
    let mid = g.D.Disk.facts c.store.new.disk in
    let new = g.D.Disk.facts c.store-2.new.disk in
    then_second_store c.store-2.result old mid new c.in_ok-store.ensures.counted c.store-2.ensures.counted
