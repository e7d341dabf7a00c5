-- What one entry more, and one vertex more, do to what a table draws. Assumes nothing.
use Rattle.std.proofs.Common.{◌≡◌, ℕ, ◌+◌, ◌<◌, true, false, not, ◌&&◌, ◌||◌, eqb, List, [], ◌∷◌, ◌++◌, map, refl, ◌∙◌, arith, length, get_or, take, drop, set, sym, ap, ◌⊎◌, ⊎_elim, add-zero}
use Rattle.std.proofs.lemmas.Bool.Decides.{nat_tests}
use Rattle.std.proofs.lemmas.List.{take_more_set, take_more, get_or-drop, drop-drop, drop-set-lt, map_more}
use Rattle.graph.specs.Model.{Model, pairs}
use Rattle.graph.specs.Growth.{MoreVertices}
use Rattle.graph.specs.Table.{has, drawn, swept, is_arc}
use Rattle.graph.specs.declared.list.Arc.{Arc}
use Rattle.graph.specs.declared.list.ArcList.{ArcList}
use Rattle.graph.proofs.Counts.{pairs_join, pairs_same, pairs_more}
use Rattle.graph.proofs.Tables.{has_push}

-- what the table does not have, and what lies outside, is not drawn
pub no_draw : (es : List Arc) (n a b : ℕ) → has es a b ≡ false → drawn es n a b ≡ false
no_draw es n a b h = grind (arith, nat_tests)

undrawn : (es : List Arc) (n a b : ℕ) → (a < n → b < n → ⊥) → drawn es n a b ≡ false
undrawn es n a b h = grind (arith, nat_tests)

-- one entry more
pub drawn_push : (es : List Arc) (n u v : ℕ) → u < n → v < n → (u ≡ v → ⊥) → (a b : ℕ) →
    drawn (es ++ record { tail = u; head = v } ∷ []) n a b ≡ (drawn es n a b || (eqb a u && eqb b v))
drawn_push es n u v lu lv ne a b = grind (arith, nat_tests, has_push es record { tail = u; head = v } a b)

pub size_push : (es : List Arc) (n u v : ℕ) → u < n → v < n → (u ≡ v → ⊥) → has es u v ≡ false →
    pairs (drawn (es ++ record { tail = u; head = v } ∷ []) n) n ≡ pairs (drawn es n) n + 1
size_push es n u v lu lv ne off = pairs_join _ _ n u v lu lv (grind (arith, nat_tests)) (drawn_push es n u v lu lv ne)

-- m is the old number of entries and k the new, and the entry goes to j
module _ (T : List Arc) (j m k n u v : ℕ) (at : j ≡ m) (more : k ≡ j + 1) (lt : j < length T) (lu : u < n) (lv : v < n) (ne : u ≡ v → ⊥) where
  pub drawn_added : (a b : ℕ) → drawn (take k (set T j record { tail = u; head = v })) n a b ≡ (drawn (take m T) n a b || (eqb a u && eqb b v))
  drawn_added a b =
      ap (λ l. drawn l n a b) (ap (λ i. take i (set T j record { tail = u; head = v })) more ∙ take_more_set T j record { tail = u; head = v } lt)
      ∙ drawn_push (take j T) n u v lu lv ne a b ∙ ap (λ i. drawn (take i T) n a b || (eqb a u && eqb b v)) at

  pub size_added : has (take m T) u v ≡ false →
      pairs (drawn (take k (set T j record { tail = u; head = v })) n) n ≡ pairs (drawn (take m T) n) n + 1
  size_added off = pairs_join _ _ n u v lu lv (no_draw (take m T) n u v off) drawn_added

-- an entry that names n is blotted out, and any other stays
pub swept_out : (n : ℕ) (e : Arc) → (e.tail ≡ n) ⊎ (e.head ≡ n) → swept n e ≡ record { tail = 0; head = 0 }
swept_out n e h = ⊎_elim (λ k. grind (arith, nat_tests, k)) (λ k. grind (arith, nat_tests, k)) h

pub swept_in : (n : ℕ) (e : Arc) → (e.tail ≡ n → ⊥) → (e.head ≡ n → ⊥) → swept n e ≡ e
swept_in n e h k = grind (arith, nat_tests, h, k)

-- at a ≢ b a swept entry is a→b just where the entry is and names no n
pub swept_arc : (n a b : ℕ) (e : Arc) → (a ≡ b → ⊥) → is_arc a b (swept n e) ≡ true → (is_arc a b e ≡ true) × (a ≡ n → ⊥) × (b ≡ n → ⊥)
swept_arc n a b e ne h = (grind (arith, nat_tests, h), (λ z. grind (arith, nat_tests, h, z)), (λ z. grind (arith, nat_tests, h, z)))

-- at a ≢ b a swept table has a→b just where the table has it and it names no n
has_swept : (es : List Arc) (n a b : ℕ) → (a ≡ b → ⊥) → has (map (swept n) es) a b ≡ (has es a b && (not (eqb a n) && not (eqb b n)))
unfolding has
has_swept [] n a b ne = refl
has_swept (e ∷ es) n a b ne = grind (arith, nat_tests, has_swept es n a b ne)

-- what the table has and names no n, the swept table has, at a ≡ b too
has_unswept : (es : List Arc) (n a b : ℕ) → (a ≡ n → ⊥) → (b ≡ n → ⊥) → has es a b ≡ true → has (map (swept n) es) a b ≡ true
unfolding has
has_unswept [] n a b na nb h = h
has_unswept (e ∷ es) n a b na nb h = grind (arith, nat_tests, has_unswept es n a b na nb)

pub drawn_swept : (es : List Arc) (n a b : ℕ) → drawn (map (swept n) es) (n + 1) a b ≡ drawn es n a b
drawn_swept es n a b = grind (arith, nat_tests, has_swept es n a b)

pub size_swept : (es : List Arc) (n : ℕ) → pairs (drawn (map (swept n) es) (n + 1)) (n + 1) ≡ pairs (drawn es n) n
size_swept es n =
    pairs_same _ _ (n + 1) (drawn_swept es n) ∙ pairs_more (drawn es n) n (λ a. grind (arith, nat_tests)) (λ a. grind (arith, nat_tests))

-- one turn of the sweep of T₀, which has come to T
module _ (T₀ T : List Arc) (i n : ℕ) (d : Arc) (lt : i < length T) (len : length T ≡ length T₀)
    (front : take i T ≡ map (swept n) (take i T₀)) (back : drop i T ≡ drop i T₀) where
  pub unchanged : get_or T i d ≡ get_or T₀ i d
  unchanged =
      ap (λ k. get_or T k d) (sym (add-zero i)) ∙ sym (get_or-drop i T 0 d) ∙ ap (λ l. get_or l 0 d) back ∙ get_or-drop i T₀ 0 d ∙ ap (λ k. get_or T₀ k d) (add-zero i)

  pub tail_back : drop (i + 1) T ≡ drop (i + 1) T₀
  tail_back = sym (drop-drop 1 i T) ∙ ap (drop 1) back ∙ drop-drop 1 i T₀

  pub front_at : (y : Arc) → y ≡ swept n (get_or T₀ i d) → take i T ++ y ∷ [] ≡ map (swept n) (take (i + 1) T₀)
  front_at y e = ap (λ l. l ++ y ∷ []) front ∙ ap (λ z. map (swept n) (take i T₀) ++ z ∷ []) e ∙ sym (map_more (swept n) T₀ i d (omega arith))

  pub front_set : (y : Arc) → y ≡ swept n (get_or T₀ i d) → take (i + 1) (set T i y) ≡ map (swept n) (take (i + 1) T₀)
  front_set y e = take_more_set T i y lt ∙ front_at y e

  pub front_keep : get_or T i d ≡ swept n (get_or T₀ i d) → take (i + 1) T ≡ map (swept n) (take (i + 1) T₀)
  front_keep e = take_more T i d lt ∙ front_at (get_or T i d) e

  pub back_set : (y : Arc) → drop (i + 1) (set T i y) ≡ drop (i + 1) T₀
  back_set y = drop-set-lt (i + 1) T i y (omega arith) ∙ tail_back

  pub back_keep : drop (i + 1) T ≡ drop (i + 1) T₀
  back_keep = tail_back

-- the sweep of x₀ has come to x, at i
abbrev pub Swept : ℕ → ℕ → ArcList → ArcList → Type 0
Swept i n x₀ x =
    (take i x.table.now ≡ map (swept n) (take i x₀.table.now))
    × (drop i x.table.now ≡ drop i x₀.table.now)
    × (length x.table.now ≡ length x₀.table.now)
    × (x.used ≡ x₀.used)
    × (x.count ≡ x₀.count)

-- what the whole sweep has done, with one vertex more
module _ (T₀ T : List Arc) (i m m' n N N' : ℕ) (all : i ≡ m) (still : m' ≡ m) (order : n ≡ N) (more : N' ≡ n + 1)
    (front : take i T ≡ map (swept n) (take i T₀)) where
  pub whole : take m' T ≡ map (swept n) (take m T₀)
  whole = ap (λ k. take k T) (still ∙ sym all) ∙ front ∙ ap (λ k. map (swept n) (take k T₀)) all

  pub drawn_grown : (a b : ℕ) → drawn (take m' T) N' a b ≡ drawn (take m T₀) N a b
  drawn_grown a b =
      ap (λ l. drawn l N' a b) whole ∙ ap (λ k. drawn (map (swept n) (take m T₀)) k a b) more
      ∙ drawn_swept (take m T₀) n a b ∙ ap (λ k. drawn (take m T₀) k a b) order

  pub size_grown : pairs (drawn (take m' T) N') N' ≡ pairs (drawn (take m T₀) N) N
  size_grown =
      ap (λ l. pairs (drawn l N') N') whole ∙ ap (λ k. pairs (drawn (map (swept n) (take m T₀)) k) k) more
      ∙ size_swept (take m T₀) n ∙ ap (λ k. pairs (drawn (take m T₀) k) k) order

-- one vertex more than k more
one_more : (g h i : Model) (k : ℕ) → MoreVertices g h k → MoreVertices h i 1 → MoreVertices g i (k + 1)
one_more g h i k p q = record { order = omega (arith, p.order, q.order); arcs = λ a b. q.arcs a b ∙ p.arcs a b }
