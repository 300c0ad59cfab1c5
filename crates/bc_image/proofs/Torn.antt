-- What is found in a journal says which entries count.
use Rattle.std.proofs.Common.{◌≡◌, suc, List, refl, subst, ◌∙◌}
use Rattle.bc_model.specs.Sector.{Image}
use Rattle.bc_disk.specs.declared.geometry.Geometry.{Geometry}
use Rattle.bc_jset.specs.Entries.{FoundEntry, StandIn, IsNewest, AreNumbered, AreEntries}
use Rattle.bc_jset.proofs.Entries.{one_stand}
use Rattle.bc_image.specs.Reading.{Reading, IsReading}
use Rattle.bc_image.specs.Rests.{SameRest}
use Rattle.bc_image.proofs.Stays.{reading_with}

pub same_found : (g : Geometry) (a b : Image) (all es : List FoundEntry) → StandIn g a g.journal all → StandIn g b g.journal all → (p : AreEntries g a es) → (q : AreEntries g b es) × (q.newest ≡ p.newest)
same_found g a b all es here there p =
    let same : p.all ≡ all = one_stand g a g.journal p.all all p.stand here in (
      record {
        all = all;
        stand = there;
        newest = p.newest;
        is_newest = subst (λ (xs : List FoundEntry). IsNewest xs p.newest) same p.is_newest;
        reaches = p.reaches;
        numbered = subst (λ (xs : List FoundEntry). AreNumbered xs p.newest.item.last_seq es (suc p.newest.item.seq)) same p.numbered;
      },
      refl,
    )

pub torn_entries : (g : Geometry) (a b : Image) (all es : List FoundEntry) → StandIn g a g.journal all → StandIn g b g.journal all → AreEntries g a es → AreEntries g b es
torn_entries g a b all es here there p = (same_found g a b all es here there p).0

pub torn_reading : (g : Geometry) (a b : Image) (all : List FoundEntry) (r : Reading) → StandIn g a g.journal all → StandIn g b g.journal all → IsReading g a r → SameRest g a b r → IsReading g b r
torn_reading g a b all r here there p rest =
    let same = same_found g a b all r.entries here there p.entries in
    reading_with g a b r r.entries same.0 (same.1 ∙ p.newest) p rest
