-- The derived comparison of keys tells whether they are equal.
use Rattle.std.proofs.Common.{◌≡◌, ◌&&◌, Bool, eqb, ap}
use Rattle.std.proofs.Math.Bool.{beq}
use Rattle.std.specs.Cmp.{booleans_Decides}
use Rattle.std.specs.Bool.{Decides}
use Rattle.std.proofs.lemmas.Bool.Decides.{Decides-like, Decides-and, Decides-eqb}
use lib.Pointwise.{pointwise, pointwise_decides}
use Rattle.bc_key.specs.declared.key.Key.{Key}
use Rattle.bc_key.specs.declared.ptr.Ptr.{Ptr}
use Rattle.bc_key.proofs.KeyLaws.{same_key, same_ptr}

abbrev pub eq_ptr : Ptr → Ptr → Bool
eq_ptr a b = eqb a.dev b.dev && (eqb a.offset b.offset && eqb a.generation b.generation)

ptr_decides : (a b : Ptr) → Decides (eq_ptr a b) (a ≡ b)
ptr_decides a b = Decides-like (eq_ptr a b)
    (λ same. same_ptr a b same.0 same.1.0 same.1.1)
    (λ is. (ap (λ (p : Ptr). p.dev) is, (ap (λ (p : Ptr). p.offset) is, ap (λ (p : Ptr). p.generation) is)))
    (Decides-and (eqb a.dev b.dev) (eqb a.offset b.offset && eqb a.generation b.generation) (Decides-eqb a.dev b.dev)
    (Decides-and (eqb a.offset b.offset) (eqb a.generation b.generation) (Decides-eqb a.offset b.offset) (Decides-eqb a.generation b.generation)))

abbrev pub eq_from_count : Key → Key → Bool
eq_from_count a b = eqb a.csum b.csum && (eqb a.count b.count && pointwise eq_ptr a.ptrs b.ptrs)

abbrev pub eq_key : Key → Key → Bool
eq_key a b = eqb a.inode b.inode && (eqb a.end b.end && (eqb a.size b.size && (beq a.dirty b.dirty && eq_from_count a b)))

pub key_decides : (a b : Key) → Decides (eq_key a b) (a ≡ b)
key_decides a b = Decides-like (eq_key a b)
    (λ same. same_key a b same.0 same.1.0 same.1.1.0 same.1.1.1.0 same.1.1.1.1.0 same.1.1.1.1.1.0 same.1.1.1.1.1.1)
    (λ is. (ap (λ (k : Key). k.inode) is, (ap (λ (k : Key). k.end) is, (ap (λ (k : Key). k.size) is, (ap (λ (k : Key). k.dirty) is, (ap (λ (k : Key). k.csum) is, (ap (λ (k : Key). k.count) is, ap (λ (k : Key). k.ptrs) is)))))))
    (Decides-and (eqb a.inode b.inode) _ (Decides-eqb a.inode b.inode)
    (Decides-and (eqb a.end b.end) _ (Decides-eqb a.end b.end)
    (Decides-and (eqb a.size b.size) _ (Decides-eqb a.size b.size)
    (Decides-and (beq a.dirty b.dirty) _ (booleans_Decides a.dirty b.dirty)
    (Decides-and (eqb a.csum b.csum) _ (Decides-eqb a.csum b.csum)
    (Decides-and (eqb a.count b.count) _ (Decides-eqb a.count b.count) (pointwise_decides ptr_decides a.ptrs b.ptrs)))))))
