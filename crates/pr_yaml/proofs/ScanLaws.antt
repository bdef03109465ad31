-- The scan of a text is a function of it.
use Rattle.std.proofs.Common.{◌≡◌, ℕ, zero, suc, ◌<◌, List, [], ◌∷◌, Option, refl, ap, subst, arith, ◌↔◌}
use Rattle.pr_yaml.specs.Bytes.{legible, without_mark}
use Rattle.pr_yaml.specs.Tokens.{Scans, no_more, past_gap, one_more, stopped, part_at, known_of, first_state, HasPlaces, HasScan, fault_of}
use Rattle.pr_yaml.specs.Scan.{left, by_part, onto, scan_in, scanned_places, scanned}
use Rattle.pr_yaml.specs.declared.yaml_scan.token.Token.{Token}
use Rattle.pr_yaml.specs.declared.yaml_scan.fault.ScanFault.{ScanFault}
use Rattle.pr_yaml.specs.declared.yaml_scan.fault.BadPlace.{BadPlace}
use Rattle.pr_yaml.specs.declared.yaml_scan.state.State.{State}
use Rattle.pr_yaml.specs.declared.yaml_scan.state.Part.{Part}
use Rattle.pr_yaml.specs.declared.yaml_scan.state.Part.TheVariants.{Over, Gap, Token as TokenPart, Fault}
use Rattle.pr_yaml.proofs.Shorter.{IsShorter, part_shorter}

-- what a scan gives in enough parts
enough : {before ts : List Token} {s : State} {e : Option BadPlace} (n : ℕ) → left s.place < n → Scans before s ts e → scan_in n before s ≡ (ts, e)
enough zero h d = absurd (omega arith)
enough (suc n) h (no_more a) = rw a refl
enough (suc n) h (stopped f a) = rw a refl
enough {s = s} (suc n) h (past_gap {before = before} next a d) =
    let less : left next.place < left s.place = subst (λ p. IsShorter (left s.place) p) a (part_shorter (known_of before) s) in
    rw a (enough n (omega (arith, h, less)) d)
enough {s = s} (suc n) h (one_more {before = before} t next a d) =
    let less : left next.place < left s.place = subst (λ p. IsShorter (left s.place) p) a (part_shorter (known_of before) s) in
    rw a (ap (onto t) (enough n (omega (arith, h, less)) d))

-- every state has a scan
every : (n : ℕ) (before : List Token) (s : State) → left s.place < n → Scans before s (scan_in n before s).0 (scan_in n before s).1
every zero before s h = absurd (omega arith)
every (suc n) before s h = by_case (part_at (known_of before) s) refl (λ next less. every n before next (omega (arith, h, less))) (λ t next less. every n (t ∷ before) next (omega (arith, h, less))) where
  by_case : (p : Part) → part_at (known_of before) s ≡ p →
      ((next : State) → left next.place < left s.place → Scans before next (scan_in n before next).0 (scan_in n before next).1) →
      ((t : Token) (next : State) → left next.place < left s.place → Scans (t ∷ before) next (scan_in n (t ∷ before) next).0 (scan_in n (t ∷ before) next).1) →
      Scans before s (by_part p (λ next. scan_in n before next) (λ t next. scan_in n (t ∷ before) next)).0 (by_part p (λ next. scan_in n before next) (λ t next. scan_in n (t ∷ before) next)).1
  by_case Over a g k = no_more a
  by_case (Gap next) a g k = past_gap next a (g next (subst (λ p. IsShorter (left s.place) p) a (part_shorter (known_of before) s)))
  by_case (TokenPart t next) a g k = one_more t next a (k t next (subst (λ p. IsShorter (left s.place) p) a (part_shorter (known_of before) s)))
  by_case (Fault f) a g k = stopped f a

to_scan : (text : List ℕ) (ts : List Token) (e : Option BadPlace) → scanned_places text ≡ (ts, e) → HasPlaces text ts e
unfolding scanned_places
to_scan text ts e h =
    let s = first_state (legible (without_mark text)) in
    subst (λ r. Scans [] s r.0 r.1) h (every (suc (left s.place)) [] s (omega arith))

from_scan : (text : List ℕ) (ts : List Token) (e : Option BadPlace) → HasPlaces text ts e → scanned_places text ≡ (ts, e)
unfolding scanned_places
from_scan text ts e d = enough (suc (left (first_state (legible (without_mark text))).place)) (omega arith) d

pub is_function : (text : List ℕ) (ts : List Token) (e : Option BadPlace) → (scanned_places text ≡ (ts, e)) ↔ HasPlaces text ts e
is_function text ts e = (to_scan text ts e, from_scan text ts e)

to_fault : (text : List ℕ) (ts : List Token) (e : Option ScanFault) → scanned text ≡ (ts, e) → HasScan text ts e
unfolding scanned
to_fault text ts e h =
    let d = to_scan text (scanned_places text).0 (scanned_places text).1 refl in
    let same : (scanned_places text).0 ≡ ts = ap (λ r. r.0) h in
    let fault : fault_of (scanned_places text).1 ≡ e = ap (λ r. r.1) h in
    ((scanned_places text).1, (subst (λ us. HasPlaces text us (scanned_places text).1) same d, fault))

from_fault : (text : List ℕ) (ts : List Token) (e : Option ScanFault) → HasScan text ts e → scanned text ≡ (ts, e)
unfolding scanned
from_fault text ts e h = rw (from_scan text ts h.0 h.1.0, h.1.1) refl

pub fault_is_function : (text : List ℕ) (ts : List Token) (e : Option ScanFault) → (scanned text ≡ (ts, e)) ↔ HasScan text ts e
fault_is_function text ts e = (to_fault text ts e, from_fault text ts e)
