-- Masks by their bits. Assumes nothing.
use Rattle.std.proofs.Common.{◌≡◌, ℕ, zero, suc, ◌*◌, ◌/◌, ◌%◌, ◌^◌, ◌<◌, not, eqb, sym, ap, ◌∙◌, inl, inr, pow-suc, arith}
use Rattle.std.specs.Int.{bit_at}
use lib.Bits.{bit_and, and_le_l}
use Rattle.std.proofs.lemmas.Nat.Bits.{bit_at_and, bit_at_lowest, bit_at-suc, bit_at-lt, bit_at-zero, same_from_bits_below}
use Rattle.std.proofs.lemmas.Bool.{eqb-true, eq-eqb, true_from_ne_false, cases_eq}
use Rattle.std.proofs.lemmas.Bool.Decides.{same_from_decides, not_from_Decides, Decides-not, Decides-eqb}
use Rattle.labels.specs.Judges.{meets, exceeds}
use Rattle.labels.specs.BoundedLemmas.{meets_tells, exceeds_tells}

-- two different numbers of k bits differ in one of them
differ_at : (k x y : ℕ) → x < 2 ^ k → y < 2 ^ k → (x ≡ y → ⊥) → (i : ℕ) × (i < k) × (x / 2 ^ i % 2 ≡ y / 2 ^ i % 2 → ⊥)
differ_at zero x y hx hy ne = absurd (ne (omega arith))
differ_at (suc k) x y hx hy ne =
    let p : 2 ^ suc k ≡ 2 ^ k * 2 = pow-suc 2 k in
    elim (cases_eq (x % 2) (y % 2)) [
      | inl e ↦
          let (i, lt, off) = differ_at k (x / 2) (y / 2) (omega arith) (omega arith) (omega arith) in
          (suc i, omega arith, λ f. off (sym (bit_at-suc x i) ∙ f ∙ bit_at-suc y i))
      | inr n ↦ (0, omega arith, λ f. n (sym (bit_at_lowest x) ∙ f ∙ bit_at_lowest y))
    ]

pub meets_mask : (m n : ℕ) → m < 2 ^ 16 → not (eqb (bit_and m n) 0) ≡ meets m n
meets_mask m n hm =
    same_from_decides _ (meets m n) (Decides-not (eqb (bit_and m n) 0) (Decides-eqb (bit_and m n) 0)) (
      λ t e. let (i, hi, (a, b)) = (meets_tells m n).0 t in
          let p = eqb-true (bit_at m i) 1 a in
          let q = eqb-true (bit_at n i) 1 b in
          let both = bit_at_and m n i in
          let z : bit_at (bit_and m n) i ≡ 0 = ap (λ x. bit_at x i) e ∙ bit_at-zero i in
          omega arith,
      λ ne. true_from_ne_false (meets m n) (λ f. ne
          (same_from_bits_below 16 (bit_and m n) 0 (let le = and_le_l m n in omega arith) (omega arith) (λ i hi.
          let both = bit_at_and m n i in
          let low = bit_at-lt m i in
          let low' = bit_at-lt n i in
          let none : bit_at (bit_and m n) i ≡ 1 → ⊥ =
          λ e. not_from_Decides (meets m n) (meets_tells m n) f (i, hi, (eq-eqb (bit_at m i) 1 (omega arith), eq-eqb (bit_at n i) 1 (omega arith))) in
          let z = bit_at-zero i in
          omega arith))),
    )

pub exceeds_mask : (m n : ℕ) → m < 2 ^ 16 → not (eqb (bit_and m n) m) ≡ exceeds m n
exceeds_mask m n hm =
    same_from_decides _ (exceeds m n) (Decides-not (eqb (bit_and m n) m) (Decides-eqb (bit_and m n) m)) (
      λ t e. let (i, hi, (a, b)) = (exceeds_tells m n).0 t in
          let p = eqb-true (bit_at m i) 1 a in
          let both = bit_at_and m n i in
          let same : bit_at (bit_and m n) i ≡ bit_at m i = ap (λ x. bit_at x i) e in
          let low = bit_at-lt n i in
          b (eq-eqb (bit_at n i) 1 (omega arith)),
      λ ne. true_from_ne_false (exceeds m n) (λ f. ne
          (same_from_bits_below 16 (bit_and m n) m (let le = and_le_l m n in omega arith) hm (λ i hi.
          let both = bit_at_and m n i in
          let low = bit_at-lt m i in
          elim (cases_eq (bit_at n i) 1) [
            | inl b ↦ omega arith
            | inr b ↦
                let none : bit_at m i ≡ 1 → ⊥ =
                λ a. not_from_Decides (exceeds m n) (exceeds_tells m n) f (i, hi, (eq-eqb (bit_at m i) 1 a, λ c. b (eqb-true (bit_at n i) 1 c))) in
                omega arith
          ]))),
    )
