-- Each instruction of a generated program is in the ranges of its encoding.
use Rattle.std.proofs.Common.{◌≡◌, ℕ, zero, suc, ◌+◌, ◌-◌, ◌*◌, ◌/◌, ◌%◌, ◌^◌, ◌<◌, ◌≤◌, ℤ, pos, List, ◌++◌, length, slice_index_or, refl, arith}
use Rattle.std.specs.Prelude.{neg_ℤ}
use Rattle.std.specs.List.{AllByRecursion}
use Rattle.std.specs.Int.{IsInRange}
use Rattle.std.proofs.lemmas.Int.{ints}
use Rattle.rv_base.specs.declared.instr.Op.TheVariants as op
use Rattle.rv_base.specs.declared.instr.Cond.TheVariants as cond
use Rattle.rv_base.specs.declared.instr.LoadKind.TheVariants as load
use Rattle.rv_base.specs.declared.instr.StoreKind.TheVariants as store
use Rattle.rv_base.specs.declared.instr.Instr.{Instr}
use Rattle.rv_base.specs.declared.instr.Instr.TheVariants as instr
use Rattle.rv_decode.specs.Ranges.{IsSigned, IsOffset, IsImmediate, IsEncodable}
use Rattle.rv_gen.specs.Draws.{draw, ◌>>=◌}
use Rattle.rv_gen.specs.Programs.{immediate_operations, loads, stores, load_width, store_width, pool, small, offset, register_item, immediate_item, upper_item, load_item, store_item, branch_item, call_item, word, filled, items, front, back, code, drawn, program}
use Rattle.rv_gen.proofs.Drawn.{draw-below, all-append, items-hold, filled-hold}
use Rattle.rv_gen.proofs.Lengths.{items-few}

abbrev pub AreEncodable : List Instr → Type 0
AreEncodable is = AllByRecursion IsEncodable is

-- ---- what is drawn

pool-below : (s : ℕ) → (pool s).0 < 32
unfolding pool ◌>>=◌
pool-below s = let below = draw-below 10 s (omega arith) in omega arith

small-signed : (s : ℕ) → IsSigned 12 (small s).0
unfolding small ◌>>=◌
small-signed s = let below = draw-below 4096 s (omega arith) in (omega (arith, ints), omega (arith, ints))

place-signed : (n : ℕ) → n < 2048 → IsSigned 12 (pos n)
place-signed n below = (omega (arith, ints), omega (arith, ints))

offset-signed : (width s : ℕ) → IsSigned 12 (offset width s).0
unfolding offset ◌>>=◌
offset-signed width s =
    let o : ℕ = (draw 2048 s).0 in
    let below : o < 2048 = draw-below 2048 s (omega arith) in
    place-signed (o - o % width) (omega arith)

-- an operation of those with an immediate of 12 bits
immediate-chosen : (o : ℕ) (z : ℤ) → IsSigned 12 z → IsImmediate (slice_index_or immediate_operations o op.Add) z
immediate-chosen zero z h = h
immediate-chosen (suc zero) z h = h
immediate-chosen (suc (suc zero)) z h = h
immediate-chosen (suc (suc (suc zero))) z h = h
immediate-chosen (suc (suc (suc (suc zero)))) z h = h
immediate-chosen (suc (suc (suc (suc (suc zero))))) z h = h
immediate-chosen (suc (suc (suc (suc (suc (suc o)))))) z h = h

-- ---- items

register-encodable : (s : ℕ) → IsEncodable (register_item s).0
unfolding register_item ◌>>=◌
register-encodable s =
    let t = (draw 18 s).1 in
    let u = (pool t).1 in
    (pool-below t, pool-below u, pool-below (pool u).1)

immediate-encodable : (s : ℕ) → IsEncodable (immediate_item s).0
unfolding immediate_item ◌>>=◌
immediate-encodable s =
    let o = (draw 6 s).0 in
    let t = (draw 6 s).1 in
    let u = (pool t).1 in
    let v = (pool u).1 in
    (pool-below t, pool-below u, immediate-chosen o (small v).0 (small-signed v))

upper-is : (u : ℕ) → u < 65536 → (u * 2 ^ 12 < 2 ^ 32) × (u * 2 ^ 12 % 2 ^ 12 ≡ 0)
upper-is u below = (omega arith, omega arith)

upper-encodable : (s : ℕ) → IsEncodable (upper_item s).0
unfolding upper_item ◌>>=◌
upper-encodable s =
    let t = (pool s).1 in
    (pool-below s, upper-is (draw 65536 t).0 (draw-below 65536 t (omega arith)))

load-encodable : (s : ℕ) → IsEncodable (load_item s).0
unfolding load_item ◌>>=◌
load-encodable s =
    let kind = slice_index_or loads (draw 5 s).0 load.B in
    let t = (draw 5 s).1 in
    (pool-below t, omega arith, offset-signed (load_width kind) (pool t).1)

store-encodable : (s : ℕ) → IsEncodable (store_item s).0
unfolding store_item ◌>>=◌
store-encodable s =
    let kind = slice_index_or stores (draw 3 s).0 store.B in
    let t = (draw 3 s).1 in
    (omega arith, pool-below t, offset-signed (store_width kind) (pool t).1)

over-one-word : IsOffset 13 (pos 8)
over-one-word = ((omega (arith, ints), omega (arith, ints)), refl)

branch-encodable : (s : ℕ) → IsEncodable (branch_item s).0
unfolding branch_item ◌>>=◌
branch-encodable s =
    let t = (draw 6 s).1 in
    (pool-below t, pool-below (pool t).1, over-one-word)

-- a register takes a number below 2,048 above another
add-encodable : (rd rs1 n : ℕ) → rd < 32 → rs1 < 32 → n < 2048 → IsEncodable (instr.OpImm op.Add rd rs1 (pos n))
add-encodable rd rs1 n d a below = (d, a, place-signed n below)

call-encodable : (s : ℕ) → AreEncodable (call_item s).0
unfolding call_item ◌>>=◌
call-encodable s =
    let o : ℕ = (draw 2 s).0 in
    let t = (draw 2 s).1 in
    let f : ℕ = (draw 2048 t).0 in
    let below : o < 2 = draw-below 2 s (omega arith) in
    let within : f < 2048 = draw-below 2048 t (omega arith) in
    let number = add-encodable 17 0 (63 + o) (omega arith) (omega arith) (omega arith) in
    let descriptor = add-encodable 10 0 o (omega arith) (omega arith) (omega arith) in
    let buffer = add-encodable 11 8 f (omega arith) (omega arith) within in
    let count = add-encodable 12 0 4 (omega arith) (omega arith) (omega arith) in
    (number, (descriptor, (buffer, (count, (tt, tt)))))

items-encodable : (n s : ℕ) → AreEncodable (items n s).0
items-encodable = items-hold IsEncodable (record {
  register = register-encodable;
  immediate = immediate-encodable;
  upper = upper-encodable;
  load = load-encodable;
  store = store-encodable;
  branch = branch-encodable;
  call = call-encodable;
})

-- ---- the program

word-encodable : (r s : ℕ) → r < 32 → AreEncodable (word r s).0
unfolding word ◌>>=◌
word-encodable r s h =
    let t = (draw 65536 s).1 in
    ((h, upper-is (draw 65536 s).0 (draw-below 65536 s (omega arith))), ((h, h, small-signed t), tt))

filled-encodable : (s : ℕ) → AreEncodable (filled 10 18 s).0
filled-encodable s = filled-hold IsEncodable 10 18 s (λ q t low high. word-encodable q t (omega arith))

front-encodable : (rounds : ℕ) → rounds < 2048 → AreEncodable (front rounds)
front-encodable rounds few = ((omega arith, (omega arith, omega arith)), (add-encodable 9 0 rounds (omega arith) (omega arith) few, tt))

back-offset : (n : ℕ) → n ≤ 160 → IsOffset 13 (neg_ℤ (pos (4 * (n + 2))))
back-offset n few = ((omega (arith, ints), omega (arith, ints)), omega (arith, ints))

one-fewer : IsSigned 12 (neg_ℤ (pos 1))
one-fewer = (omega (arith, ints), omega (arith, ints))

back-encodable : (n : ℕ) → n ≤ 160 → AreEncodable (back n)
back-encodable n few =
    let fence : IsEncodable (instr.Fence 0 0 (pos 0)) = (omega arith, omega arith, place-signed 0 (omega arith)) in
    let count : IsEncodable (instr.OpImm op.Add 9 9 (neg_ℤ (pos 1))) = (omega arith, omega arith, one-fewer) in
    let again : IsEncodable (instr.Branch cond.Ne 9 0 (neg_ℤ (pos (4 * (n + 2))))) = (omega arith, omega arith, back-offset n few) in
    let status = add-encodable 10 0 0 (omega arith) (omega arith) (omega arith) in
    let exit = add-encodable 17 0 93 (omega arith) (omega arith) (omega arith) in
    (fence, (count, (again, (status, (exit, (tt, tt))))))

pub program-encodable : (number size : ℕ) → IsInRange 42 84000 size → AreEncodable (program number size).0
unfolding drawn code ◌>>=◌
program-encodable number size range =
    let rounds = size / 42 in
    let start : List Instr = (filled 10 18 number).0 in
    let t = (filled 10 18 number).1 in
    let body : List Instr = (items 32 t).0 in
    let few : length body ≤ 160 = items-few 32 t in
    let first = all-append IsEncodable (front rounds) start (front-encodable rounds (omega (arith, range.1))) (filled-encodable number) in
    let looped = all-append IsEncodable (front rounds ++ start) body first (items-encodable 32 t) in
    all-append IsEncodable (front rounds ++ start ++ body) (back (length body)) looped (back-encodable (length body) few)
