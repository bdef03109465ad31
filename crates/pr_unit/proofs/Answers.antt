-- What holds of an answer, and what follows.
use Rattle.std.proofs.Common.{Result, Ok, Err, OnOk, IfOk}

pub on_ok : {T E : Type 0} (r : Result T E) (P Q : Type 0) → (P → Q) → OnOk r P → OnOk r Q
on_ok (Ok v) P Q f p = f p
on_ok (Err e) P Q f p = tt

pub if_ok : {T E : Type 0} (r : Result T E) (P Q : T → Type 0) → ((v : T) → P v → Q v) → IfOk r P → IfOk r Q
if_ok (Ok v) P Q f p = f v p
if_ok (Err e) P Q f p = tt

pub on_ok3 : {T E : Type 0} (r : Result T E) (P Q S Z : Type 0) → (P → Q → S → Z) → OnOk r P → OnOk r Q → OnOk r S → OnOk r Z
on_ok3 (Ok v) P Q S Z f p q s = f p q s
on_ok3 (Err e) P Q S Z f p q s = tt
