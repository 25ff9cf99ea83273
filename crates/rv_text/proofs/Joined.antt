-- Pieces that were appended one after another.
use Rattle.std.proofs.Common.{◌≡◌, ℕ, List, ◌++◌, append_assoc}

pub access-joined : (old a b c d e f t1 t2 t3 t4 t5 t6 : List ℕ)
    → t1 ≡ old ++ a → t2 ≡ t1 ++ b → t3 ≡ t2 ++ c → t4 ≡ t3 ++ d → t5 ≡ t4 ++ e → t6 ≡ t5 ++ f
    → t6 ≡ old ++ (a ++ (b ++ c) ++ d ++ e ++ f)
access-joined old a b c d e f t1 t2 t3 t4 t5 t6 e1 e2 e3 e4 e5 e6 = simp (e6, e5, e4, e3, e2, e1, append_assoc)

pub step-joined : (old a b c d e f g h t1 t2 t3 t4 t5 t6 t7 t8 : List ℕ)
    → t1 ≡ old ++ a → t2 ≡ t1 ++ b → t3 ≡ t2 ++ c → t4 ≡ t3 ++ d → t5 ≡ t4 ++ e → t6 ≡ t5 ++ f → t7 ≡ t6 ++ g → t8 ≡ t7 ++ h
    → t8 ≡ old ++ (a ++ b ++ c ++ d ++ e ++ (f ++ g) ++ h)
step-joined old a b c d e f g h t1 t2 t3 t4 t5 t6 t7 t8 e1 e2 e3 e4 e5 e6 e7 e8 = simp (e8, e7, e6, e5, e4, e3, e2, e1, append_assoc)
