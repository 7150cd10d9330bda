-- A placement's value: how many poses it has, and which; a line as its three fields; and the text, one line after another.
use Prim.Native.Nat.{ℕ, ◌+◌, ◌<◌, ◌≤◌}
use mathlib.Core.Path.{◌≡◌, ap, ◌∙◌}
use mathlib.Core.List.{List, [], ◌∷◌, ◌++◌, append_assoc}
use native.Mathlib.Omega.{arith}
use lib.ListN.{length, take, get_or, length-map, get_or-map}
use lib.Seq.{take_all}
use Rattle.definition.specs.Texts.{digits, comma, line_feed}
use Rattle.definition.specs.Placement.{Pose, line_of, text_of}
use Rattle.definition.specs.Rules.{pose_at}
use Rattle.text_laws.specs.Room.{text-more, text-within}
use Rattle.job.specs.Value.{empty_pose, pose_of, placement_of}
use Rattle.job.specs.declared.Placement.{Placement}
use Rattle.text_write.specs.Put.{Room, Wrote}
use Rattle.text_write.specs.Puts.{then, rest}

pub placed-count : (P : Placement) → length (placement_of P) ≡ length (take P.count P.poses)
unfolding placement_of
placed-count P = length-map (take P.count P.poses) pose_of

pub placed_at : (P : Placement) (i : ℕ) → pose_at (placement_of P) i ≡ pose_of (get_or (take P.count P.poses) i empty_pose)
unfolding placement_of
placed_at P i = get_or-map pose_of (take P.count P.poses) i empty_pose

-- a line as the three fields that are written
abbrev pub in_fields : Pose → List ℕ
in_fields p = (digits p.site ++ (comma ∷ [])) ++ ((digits p.layout ++ (comma ∷ [])) ++ (digits p.mark ++ (line_feed ∷ [])))

pub in_fields_lem : (p : Pose) → line_of p ≡ in_fields p
in_fields_lem p = simp append_assoc

-- one line more
module _ (P : Placement) (i : ℕ) (low : i < length (take P.count P.poses)) where
  abbrev line : List ℕ
  line = line_of (pose_of (get_or (take P.count P.poses) i empty_pose))

  text-next : text_of (take (i + 1) (placement_of P)) ≡ text_of (take i (placement_of P)) ++ line
  text-next =
      text-more (placement_of P) i (omega (arith, placed-count P))
      ∙ ap (λ (p : Pose). text_of (take i (placement_of P)) ++ line_of p) (placed_at P i)

  pub next-room : {l m : List ℕ} {at : ℕ} → length (text_of (placement_of P)) ≤ length l
      → Wrote (text_of (take i (placement_of P))) l 0 m at → Room line m at
  next-room {l} fits done =
      let more : Room (text_of (take (i + 1) (placement_of P))) l 0 = record { fits = omega (arith, text-within (placement_of P) (i + 1)) } in
      rest (rw text-next at more) done

  pub next_wrote : {l m n : List ℕ} {at r : ℕ} → Wrote (text_of (take i (placement_of P))) l 0 m at → Wrote line m at n r
      → Wrote (text_of (take (i + 1) (placement_of P))) l 0 n r
  next_wrote done w = rw text-next (then done w)

-- all lines
pub all_wrote : (P : Placement) (i : ℕ) → length (take P.count P.poses) ≤ i → {l m : List ℕ} {at : ℕ}
    → Wrote (text_of (take i (placement_of P))) l 0 m at → Wrote (text_of (placement_of P)) l 0 m at
all_wrote P i many w =
    let e : take i (placement_of P) ≡ placement_of P = take_all i (placement_of P) (omega (arith, placed-count P)) in
    rw e at w
