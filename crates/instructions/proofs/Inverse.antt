-- Decoding and encoding are inverse to one another.
use Rattle.std.proofs.Common.{◌≡◌, ℕ, ◌+◌, ◌*◌, ◌/◌, ◌%◌, ◌^◌, ◌<◌, Bool, true, false, cond, if◌then◌else◌, eqb, ℤ, pos, negsuc, ◌≤ℤ◌, ◌<ℤ◌, IfSome, Some, None, Option, sym, refl, ap, ◌∙◌, subst, arith, rules}
use Rattle.std.proofs.lemmas.Bool.{cond_both, eqb-true}
use Rattle.std.specs.Option.{option_map}
use Rattle.std.proofs.lemmas.Int.{ints}
use Rattle.std.proofs.lemmas.Bool.Decides.{nat_tests}
use Rattle.instructions.specs.declared.instruction.Operation.{Operation}
use Rattle.instructions.specs.declared.instruction.Condition.{Condition}
use Rattle.instructions.specs.declared.instruction.LoadWidth.{LoadWidth}
use Rattle.instructions.specs.declared.instruction.StoreWidth.{StoreWidth}
use Rattle.instructions.specs.declared.instruction.Instruction.{Instruction}
use Rattle.instructions.specs.declared.instruction.Instruction.TheVariants.{Lui, Auipc, Jal, Jalr, Branch, Load, Store, OpImm, Op, Fence, Ecall}
use Rattle.instructions.specs.Fields.{opcode_of, rd_of, funct3_of, rs1_of, rs2_of, funct7_of, fm_of, pred_of, succ_of, upper_of, signed_of, word_of, imm_i, imm_s, imm_b, imm_j, bits_s, bits_b, bits_j}
use Rattle.instructions.specs.Decode.{by_funct3, decode_of, op_imm_of, condition_of, load_width_of, store_width_of, operation_of}
use Rattle.instructions.proofs.Formed.{Within, Amount, Fits, Formed, formed_true, true_formed}
use Rattle.instructions.specs.Encode.{encoded, formed, encode_of, Inverse, low, packed, packed_i, condition_code, load_code, store_code, operation_code, operation_high, shifts}

back_i : (z : ℤ) (x : ℕ) → Within 2048 z → x ≡ low z 4096 → signed_of 2048 x ≡ z
back_i z x h e = grind (arith, ints)

back_b : (z : ℤ) (x : ℕ) → Within 4096 z → x ≡ low z 8192 → signed_of 4096 x ≡ z
back_b (pos n) x h e = grind (arith, ints)
back_b (negsuc n) x h e = grind (arith, ints)

back_j : (z : ℤ) (x : ℕ) → Within 1048576 z → x ≡ low z 2097152 → signed_of 1048576 x ≡ z
back_j z x h e = search (arith, ints, nat_tests)

-- the fields of a packed word
record Has (f7 rs2 rs1 f3 rd op w : ℕ) : Type 0 where
  opcode : opcode_of w ≡ op
  dest : rd_of w ≡ rd
  funct3 : funct3_of w ≡ f3
  first : rs1_of w ≡ rs1
  second : rs2_of w ≡ rs2
  funct7 : funct7_of w ≡ f7
  i_bits : w / 1048576 ≡ f7 * 32 + rs2
  s_bits : bits_s w ≡ f7 * 32 + rd
  b_bits : bits_b w ≡ f7 / 64 * 4096 + rd % 2 * 2048 + f7 % 64 * 32 + rd / 2 * 2

has : (f7 rs2 rs1 f3 rd op : ℕ) → f7 < 128 → rs2 < 32 → rs1 < 32 → f3 < 8 → rd < 32 → op < 128 → Has f7 rs2 rs1 f3 rd op (packed f7 rs2 rs1 f3 rd op)
has a b c d e f p q r s t u = record {
  opcode = omega arith;
  dest = omega arith;
  funct3 = omega arith;
  first = omega arith;
  second = omega arith;
  funct7 = omega arith;
  i_bits = omega arith;
  s_bits = omega arith;
  b_bits = omega arith;
}

module _ (a b c d rd op : ℕ) (ha : a < 2) (hb : b < 1024) (hc : c < 2) (hd : d < 256) (hr : rd < 32) (ho : op < 128) where
  abbrev word_j : ℕ
  word_j = a * 2147483648 + b * 2097152 + c * 1048576 + d * 4096 + rd * 128 + op

  packed_bits_j : bits_j word_j ≡ a * 1048576 + d * 4096 + c * 2048 + b * 2
  packed_bits_j = let p : word_j / 2147483648 ≡ a = omega arith in let q : word_j / 4096 % 256 ≡ d = omega arith in
      let r : word_j / 1048576 % 2 ≡ c = omega arith in let s : word_j / 2097152 % 1024 ≡ b = omega arith in rw (p, q, r, s)

regroup_j : (v : ℕ) → v % 2 ≡ 0 → v % 2097152 / 1048576 * 1048576 + v % 1048576 / 4096 * 4096 + v % 4096 / 2048 * 2048 + v % 2048 / 2 * 2 ≡ v % 2097152
regroup_j v h = omega arith

regroup_b : (v : ℕ) → v % 2 ≡ 0 → v % 8192 / 4096 * 4096 + v % 4096 / 2048 * 2048 + v % 2048 / 32 * 32 + v % 32 / 2 * 2 ≡ v % 8192
regroup_b v h = omega arith

regroup_b2 : (v f7 rd : ℕ) → f7 ≡ v % 8192 / 4096 * 64 + v % 2048 / 32 → rd ≡ v % 32 / 2 * 2 + v % 4096 / 2048 → v % 2 ≡ 0 → f7 / 64 * 4096 + rd % 2 * 2048 + f7 % 64 * 32 + rd / 2 * 2 ≡ v % 8192
regroup_b2 v f7 rd e g h =
    let p : f7 / 64 ≡ v % 8192 / 4096 = omega arith in let q : rd % 2 ≡ v % 4096 / 2048 = omega arith in
    let r : f7 % 64 ≡ v % 2048 / 32 = omega arith in let s : rd / 2 ≡ v % 32 / 2 = omega arith in rw (p, q, r, s) (regroup_b v h)

dec_lui : (w rd imm : ℕ) → opcode_of w ≡ 0x37 → rd_of w ≡ rd → upper_of w ≡ imm → decode_of w ≡ Some (Lui rd imm)
dec_lui w rd imm p q r = rw (p, q, r)

dec_auipc : (w rd imm : ℕ) → opcode_of w ≡ 0x17 → rd_of w ≡ rd → upper_of w ≡ imm → decode_of w ≡ Some (Auipc rd imm)
dec_auipc w rd imm p q r = rw (p, q, r)

dec_jal : (w rd : ℕ) (z : ℤ) → opcode_of w ≡ 0x6f → rd_of w ≡ rd → imm_j w ≡ z → decode_of w ≡ Some (Jal rd z)
dec_jal w rd z p q r = rw (p, q, r)

condition_back : (t : Condition) → condition_of (condition_code t) ≡ Some t
condition_back t = grind arith

load_back : (t : LoadWidth) → load_width_of (load_code t) ≡ Some t
load_back t = search arith

store_back : (t : StoreWidth) → store_width_of (store_code t) ≡ Some t
store_back t = search rules

operation_back : (o : Operation) → operation_of (operation_high o) (operation_code o) ≡ Some o
operation_back o = grind arith

condition_small : (t : Condition) → condition_code t < 8
condition_small t = grind arith

load_small : (t : LoadWidth) → load_code t < 8
load_small t = grind arith

store_small : (t : StoreWidth) → store_code t < 8
store_small t = grind arith

operation_small : (o : Operation) → (operation_code o < 8) × (operation_high o < 128)
operation_small o = grind arith

dec_jalr : (w rd rs1 : ℕ) (z : ℤ) → opcode_of w ≡ 0x67 → funct3_of w ≡ 0 → rd_of w ≡ rd → rs1_of w ≡ rs1 → imm_i w ≡ z → decode_of w ≡ Some (Jalr rd rs1 z)
dec_jalr w rd rs1 z p q r s t = rw (p, q, r, s, t)

dec_branch : (t : Condition) (w rs1 rs2 : ℕ) (z : ℤ) → opcode_of w ≡ 0x63 → condition_of (funct3_of w) ≡ Some t → rs1_of w ≡ rs1 → rs2_of w ≡ rs2 → imm_b w ≡ z → decode_of w ≡ Some (Branch t rs1 rs2 z)
dec_branch t w rs1 rs2 z p q r s u = rw (p, q, r, s, u)

dec_load : (t : LoadWidth) (w rd rs1 : ℕ) (z : ℤ) → opcode_of w ≡ 0x03 → load_width_of (funct3_of w) ≡ Some t → rd_of w ≡ rd → rs1_of w ≡ rs1 → imm_i w ≡ z → decode_of w ≡ Some (Load t rd rs1 z)
dec_load t w rd rs1 z p q r s u = rw (p, q, r, s, u)

dec_store : (t : StoreWidth) (w rs1 rs2 : ℕ) (z : ℤ) → opcode_of w ≡ 0x23 → store_width_of (funct3_of w) ≡ Some t → rs1_of w ≡ rs1 → rs2_of w ≡ rs2 → imm_s w ≡ z → decode_of w ≡ Some (Store t rs1 rs2 z)
dec_store t w rs1 rs2 z p q r s u = rw (p, q, r, s, u)

dec_op : (o : Operation) (w rd rs1 rs2 : ℕ) → opcode_of w ≡ 0x33 → operation_of (funct7_of w) (funct3_of w) ≡ Some o → rd_of w ≡ rd → rs1_of w ≡ rs1 → rs2_of w ≡ rs2 → decode_of w ≡ Some (Op o rd rs1 rs2)
dec_op o w rd rs1 rs2 p q r s u = rw (p, q, r, s, u)

dec_op_imm : (w : ℕ) (i : Instruction) → opcode_of w ≡ 0x13 → op_imm_of w ≡ Some i → decode_of w ≡ Some i
dec_op_imm w i p q = rw (p, q)

dec_fence : (w fm pred succ rd rs1 : ℕ) → opcode_of w ≡ 0x0f → funct3_of w ≡ 0 → (fm_of w ≡ fm) × (pred_of w ≡ pred) × (succ_of w ≡ succ) → rd_of w ≡ rd → rs1_of w ≡ rs1
    → decode_of w ≡ Some (Fence fm pred succ rd rs1)
dec_fence w fm pred succ rd rs1 p q r s t = rw (p, q, r.0, r.1, r.2, s, t)

-- the fields of FENCE in the twelve high bits
orders : (w fm pred succ : ℕ) → w / 1048576 ≡ fm * 256 + pred * 16 + succ → fm < 16 → pred < 16 → succ < 16 → (fm_of w ≡ fm) × (pred_of w ≡ pred) × (succ_of w ≡ succ)
orders w fm pred succ e p q r = (omega arith, omega arith, omega arith)

orders_back : (w : ℕ) → w < 2 ^ 32 → fm_of w * 256 + pred_of w * 16 + succ_of w ≡ w / 1048576
orders_back w h = omega arith

four_bits : (n : ℕ) → n % 16 < 16
four_bits n = omega arith

imm_small : (w x : ℕ) → w < 2 ^ 32 → x ≡ w / 1048576 → x < 4096
imm_small w x h e = omega arith

small_imm : (x : ℕ) → x < 4096 → word_of (pos x) % 4096 ≡ x
small_imm x h = omega (arith, ints)

-- the halves of an immediate, put together again
halves : (v : ℕ) → v % 4096 / 32 * 32 + v % 32 ≡ v % 4096
halves v = omega arith

has_i : (z : ℤ) (rs1 f3 rd op : ℕ) → rs1 < 32 → f3 < 8 → rd < 32 → op < 128 → Has (low z 4096 / 32) (low z 32) rs1 f3 rd op (packed_i z rs1 f3 rd op)
has_i z rs1 f3 rd op h1 h3 hd ho = has (low z 4096 / 32) (low z 32) rs1 f3 rd op (omega arith) (omega arith) h1 h3 hd ho

imm_i_is : (z : ℤ) (rs1 f3 rd op w : ℕ) → Within 2048 z → Has (low z 4096 / 32) (low z 32) rs1 f3 rd op w → imm_i w ≡ z
imm_i_is z rs1 f3 rd op w hz h = back_i z (w / 1048576) hz (h.i_bits ∙ halves (word_of z))

-- an operation on a register and an immediate, without and with a shift
op_imm_plain : (o : Operation) (z : ℤ) → shifts o ≡ false → Fits o z → (w rd rs1 : ℕ) → funct3_of w ≡ operation_code o → rd_of w ≡ rd → rs1_of w ≡ rs1 → imm_i w ≡ z
    → op_imm_of w ≡ Some (OpImm o rd rs1 z)
op_imm_plain o z e g w rd rs1 p q r s = grind arith

within : (o : Operation) (z : ℤ) → shifts o ≡ false → Fits o z → Within 2048 z
within o z e g = grind arith

back_plain : (o : Operation) (rd rs1 : ℕ) (z : ℤ) → shifts o ≡ false → rd < 32 → rs1 < 32 → Fits o z → decode_of (packed_i z rs1 (operation_code o) rd 0x13) ≡ Some (OpImm o rd rs1 z)
back_plain o rd rs1 z e hd h1 hz =
    let w = packed_i z rs1 (operation_code o) rd 0x13 in let h = has_i z rs1 (operation_code o) rd 0x13 h1 (operation_small o).0 hd (omega arith) in
    dec_op_imm w (OpImm o rd rs1 z) h.opcode (op_imm_plain o z e hz w rd rs1 h.funct3 h.dest h.first (imm_i_is z rs1 (operation_code o) rd 0x13 w (within o z e hz) h))

op_imm_shift : (o : Operation) → shifts o ≡ true → (w rd rs1 rs2 : ℕ) → funct7_of w ≡ operation_high o → funct3_of w ≡ operation_code o → rd_of w ≡ rd → rs1_of w ≡ rs1 → rs2_of w ≡ rs2 → op_imm_of w ≡ Some (OpImm o rd rs1 (pos rs2))
op_imm_shift o e w rd rs1 rs2 p q r s t = grind arith

amount : (o : Operation) (z : ℤ) → shifts o ≡ true → Fits o z → Amount z
amount o z e g = grind arith

back_shift : (o : Operation) (rd rs1 : ℕ) (z : ℤ) → shifts o ≡ true → rd < 32 → rs1 < 32 → Fits o z → decode_of (packed (operation_high o) (low z 32) rs1 (operation_code o) rd 0x13) ≡ Some (OpImm o rd rs1 z)
back_shift o rd rs1 z e hd h1 hz =
    let a = amount o z e hz in
    let w = packed (operation_high o) (low z 32) rs1 (operation_code o) rd 0x13 in
    let h = has (operation_high o) (low z 32) rs1 (operation_code o) rd 0x13 (operation_small o).1 (omega arith) h1 (operation_small o).0 hd (omega arith) in
    let g : pos (low z 32) ≡ z = grind (arith, ints) in
    dec_op_imm w (OpImm o rd rs1 z) h.opcode (op_imm_shift o e w rd rs1 (low z 32) h.funct7 h.funct3 h.dest h.first h.second ∙ ap (λ y. Some (OpImm o rd rs1 y)) g)

back_op_imm : (o : Operation) (rd rs1 : ℕ) (z : ℤ) (b : Bool) → shifts o ≡ b → rd < 32 → rs1 < 32 → Fits o z
    → decode_of (if b then packed (operation_high o) (low z 32) rs1 (operation_code o) rd 0x13 else packed_i z rs1 (operation_code o) rd 0x13) ≡ Some (OpImm o rd rs1 z)
back_op_imm o rd rs1 z true e hd h1 hz = back_shift o rd rs1 z e hd h1 hz
back_op_imm o rd rs1 z false e hd h1 hz = back_plain o rd rs1 z e hd h1 hz

pub decodes_back : (i : Instruction) → Formed i → decode_of (encoded i) ≡ Some i
decodes_back (Lui rd imm) f = dec_lui (encoded (Lui rd imm)) rd imm (omega arith) (omega arith) (omega arith)
decodes_back (Auipc rd imm) f = dec_auipc (encoded (Auipc rd imm)) rd imm (omega arith) (omega arith) (omega arith)
decodes_back (Jal rd z) f =
    let v = word_of z in
    let e : bits_j (encoded (Jal rd z)) ≡ low z 2097152 =
    packed_bits_j (v % 2097152 / 1048576) (v % 2048 / 2) (v % 4096 / 2048) (v % 1048576 / 4096) rd 0x6f (omega arith) (omega arith) (omega arith) (omega arith) f.0 (omega arith) ∙ regroup_j v f.2 in
    dec_jal (encoded (Jal rd z)) rd z (omega arith) (omega arith) (back_j z (bits_j (encoded (Jal rd z))) f.1 e)
decodes_back (Jalr rd rs1 z) f =
    let h = has_i z rs1 0 rd 0x67 f.1 (omega arith) f.0 (omega arith) in
    dec_jalr (encoded (Jalr rd rs1 z)) rd rs1 z h.opcode h.funct3 h.dest h.first (imm_i_is z rs1 0 rd 0x67 (encoded (Jalr rd rs1 z)) f.2 h)
decodes_back (Branch t rs1 rs2 z) f =
    let v = word_of z in let a = v % 8192 / 4096 * 64 + v % 2048 / 32 in let b = v % 32 / 2 * 2 + v % 4096 / 2048 in
    let h = has a rs2 rs1 (condition_code t) b 0x63 (omega arith) f.1 f.0 (condition_small t) (omega arith) (omega arith) in
    dec_branch t (encoded (Branch t rs1 rs2 z)) rs1 rs2 z h.opcode (ap condition_of h.funct3 ∙ condition_back t) h.first h.second
    (back_b z (bits_b (encoded (Branch t rs1 rs2 z))) f.2 (h.b_bits ∙ regroup_b2 v a b refl refl f.3))
decodes_back (Load t rd rs1 z) f =
    let h = has_i z rs1 (load_code t) rd 0x03 f.1 (load_small t) f.0 (omega arith) in let w = encoded (Load t rd rs1 z) in
    dec_load t w rd rs1 z h.opcode (ap load_width_of h.funct3 ∙ load_back t) h.dest h.first (imm_i_is z rs1 (load_code t) rd 0x03 w f.2 h)
decodes_back (Store t rs1 rs2 z) f =
    let w = encoded (Store t rs1 rs2 z) in
    let h = has (low z 4096 / 32) rs2 rs1 (store_code t) (low z 32) 0x23 (omega arith) f.1 f.0 (store_small t) (omega arith) (omega arith) in
    dec_store t w rs1 rs2 z h.opcode (ap store_width_of h.funct3 ∙ store_back t) h.first h.second (back_i z (bits_s w) f.2 (h.s_bits ∙ halves (word_of z)))
decodes_back (OpImm o rd rs1 z) f = back_op_imm o rd rs1 z (shifts o) refl f.0 f.1 f.2
decodes_back (Op o rd rs1 rs2) f =
    let h = has (operation_high o) rs2 rs1 (operation_code o) rd 0x33 (operation_small o).1 f.2 f.1 (operation_small o).0 f.0 (omega arith) in
    dec_op o (encoded (Op o rd rs1 rs2)) rd rs1 rs2 h.opcode (rw (h.funct7, h.funct3) (operation_back o)) h.dest h.first h.second
decodes_back (Fence fm pred succ rd rs1) f =
    let x = fm * 256 + pred * 16 + succ in let w = encoded (Fence fm pred succ rd rs1) in
    let h = has_i (pos x) rs1 0 rd 0x0f f.4 (omega arith) f.3 (omega arith) in
    let e : w / 1048576 ≡ x = h.i_bits ∙ halves (word_of (pos x)) ∙ small_imm x (omega arith) in
    dec_fence w fm pred succ rd rs1 h.opcode h.funct3 (orders w fm pred succ e f.0 f.1 f.2) h.dest h.first
decodes_back Ecall f = refl

-- each of the eight values of funct3
by_funct3_all : {X : Type 0} (P : Option X → Type 0) (n : ℕ) (a b c d e f g h : Option X) → (n ≡ 0 → P a) → (n ≡ 1 → P b) → (n ≡ 2 → P c) → (n ≡ 3 → P d) → (n ≡ 4 → P e) → (n ≡ 5 → P f) → (n ≡ 6 → P g) → (n ≡ 7 → P h) → P None
    → P (by_funct3 n a b c d e f g h)
by_funct3_all P n a b c d e f g h pa pb pc pd pe pf pg ph p =
    cond_both (eqb n 0) _ _ P (λ q. pa (eqb-true n 0 q)) λ _.
    cond_both (eqb n 1) _ _ P (λ q. pb (eqb-true n 1 q)) λ _.
    cond_both (eqb n 2) _ _ P (λ q. pc (eqb-true n 2 q)) λ _.
    cond_both (eqb n 3) _ _ P (λ q. pd (eqb-true n 3 q)) λ _.
    cond_both (eqb n 4) _ _ P (λ q. pe (eqb-true n 4 q)) λ _.
    cond_both (eqb n 5) _ _ P (λ q. pf (eqb-true n 5 q)) λ _.
    cond_both (eqb n 6) _ _ P (λ q. pg (eqb-true n 6 q)) λ _.
    cond_both (eqb n 7) _ _ P (λ q. ph (eqb-true n 7 q)) λ _. p

cases_mapped : {T U : Type 0} (f : T → U) (Q : T → Type 0) (R : U → Type 0) (o : Option T) → IfSome o Q → ((t : T) → Q t → R (f t)) → IfSome (option_map f o) R
cases_mapped f Q R None q k = tt
cases_mapped f Q R (Some t) q k = k t q

condition_forth : (n : ℕ) → IfSome (condition_of n) (λ t. condition_code t ≡ n)
condition_forth n = grind arith

load_forth : (n : ℕ) → IfSome (load_width_of n) (λ t. load_code t ≡ n)
load_forth n = grind arith

store_forth : (n : ℕ) → IfSome (store_width_of n) (λ t. store_code t ≡ n)
store_forth n = grind arith

operation_forth : (m n : ℕ) → IfSome (operation_of m n) (λ o. (operation_high o ≡ m) × (operation_code o ≡ n))
operation_forth m n = grind arith

-- the bits of a signed number, and its range
forth_i : (x : ℕ) → x < 4096 → (low (signed_of 2048 x) 4096 ≡ x) × (Within 2048 (signed_of 2048 x))
forth_i x h = (grind (arith, ints), (grind (arith, ints), grind (arith, ints)))

forth_b : (x : ℕ) → x < 8192 → (low (signed_of 4096 x) 8192 ≡ x) × (Within 4096 (signed_of 4096 x))
forth_b x h = (grind (arith, ints), (grind (arith, ints), grind (arith, ints)))

forth_j : (x : ℕ) → x < 2097152 → (low (signed_of 1048576 x) 2097152 ≡ x) × (Within 1048576 (signed_of 1048576 x))
forth_j x h = (grind (arith, ints), (grind (arith, ints), grind (arith, ints)))

glue : (w a b c d e p q r s t : ℕ) → w ≡ a * 128 + p → a ≡ b * 32 + q → b ≡ c * 8 + r → c ≡ d * 32 + s → d ≡ e * 32 + t
    → e * 33554432 + t * 1048576 + s * 32768 + r * 4096 + q * 128 + p ≡ w
glue w a b c d e p q r s t f g h i j = omega arith

glue_j : (w a b c d e p q r s t : ℕ) → w ≡ a * 128 + p → a ≡ b * 32 + q → b ≡ c * 256 + r → c ≡ d * 2 + s → d ≡ e * 1024 + t
    → e * 2147483648 + t * 2097152 + s * 1048576 + r * 4096 + q * 128 + p ≡ w
glue_j w a b c d e p q r s t f g h i j = omega arith

rd_split : (w : ℕ) → w / 256 % 16 * 2 + w / 128 % 2 ≡ rd_of w
rd_split w = omega arith

funct7_split : (w : ℕ) → w / 2147483648 * 64 + w / 33554432 % 64 ≡ funct7_of w
funct7_split w = omega arith

-- a word is its fields
whole : (w : ℕ) → packed (funct7_of w) (rs2_of w) (rs1_of w) (funct3_of w) (rd_of w) (opcode_of w) ≡ w
whole w = glue w (w / 128) (w / 4096) (w / 32768) (w / 1048576) (w / 33554432) (w % 128) (w / 128 % 32) (w / 4096 % 8) (w / 32768 % 32) (w / 1048576 % 32)
    (omega arith) (omega arith) (omega arith) (omega arith) (omega arith)

word_is : (w f7 rs2 rs1 f3 rd op : ℕ) → f7 ≡ funct7_of w → rs2 ≡ rs2_of w → rs1 ≡ rs1_of w → f3 ≡ funct3_of w → rd ≡ rd_of w → opcode_of w ≡ op → packed f7 rs2 rs1 f3 rd op ≡ w
word_is w f7 rs2 rs1 f3 rd op p q r s t u = omega (arith, whole w)

i_word : (w v f3 op : ℕ) → v % 4096 ≡ w / 1048576 → f3 ≡ funct3_of w → opcode_of w ≡ op → packed (v % 4096 / 32) (v % 32) (rs1_of w) f3 (rd_of w) op ≡ w
i_word w v f3 op p q r = word_is w (v % 4096 / 32) (v % 32) (rs1_of w) f3 (rd_of w) op (omega arith) (omega arith) refl q refl r

s_word : (w v f3 op : ℕ) → v % 4096 ≡ bits_s w → f3 ≡ funct3_of w → opcode_of w ≡ op → packed (v % 4096 / 32) (rs2_of w) (rs1_of w) f3 (v % 32) op ≡ w
s_word w v f3 op p q r = word_is w (v % 4096 / 32) (rs2_of w) (rs1_of w) f3 (v % 32) op (omega arith) refl refl q (omega arith) r

parts_b : (v a b c d : ℕ) → a < 2 → b < 2 → c < 64 → d < 16 → v % 8192 ≡ a * 4096 + b * 2048 + c * 32 + d * 2
    → (v % 8192 / 4096 ≡ a) × (v % 4096 / 2048 ≡ b) × (v % 2048 / 32 ≡ c) × (v % 32 / 2 ≡ d) × (v % 2 ≡ 0)
parts_b v a b c d p q r s e = (omega arith, omega arith, omega arith, omega arith, omega arith)

b_word : (w v f3 op : ℕ) → w < 2 ^ 32 → v % 8192 ≡ bits_b w → f3 ≡ funct3_of w → opcode_of w ≡ op → (packed (v % 8192 / 4096 * 64 + v % 2048 / 32) (rs2_of w) (rs1_of w) f3 (v % 32 / 2 * 2 + v % 4096 / 2048) op ≡ w) × (v % 2 ≡ 0)
b_word w v f3 op h p q r =
    let e = parts_b v (w / 2147483648) (w / 128 % 2) (w / 33554432 % 64) (w / 256 % 16) (omega arith) (omega arith) (omega arith) (omega arith) p in
    let f : v % 8192 / 4096 * 64 + v % 2048 / 32 ≡ funct7_of w = rw (e.0, e.2) (funct7_split w) in
    let g : v % 32 / 2 * 2 + v % 4096 / 2048 ≡ rd_of w = rw (e.1, e.3) (rd_split w) in
    (word_is w (v % 8192 / 4096 * 64 + v % 2048 / 32) (rs2_of w) (rs1_of w) f3 (v % 32 / 2 * 2 + v % 4096 / 2048) op f refl refl q g r, e.4)

parts_j : (v a d c b : ℕ) → a < 2 → d < 256 → c < 2 → b < 1024 → v % 2097152 ≡ a * 1048576 + d * 4096 + c * 2048 + b * 2
    → (v % 2097152 / 1048576 ≡ a) × (v % 1048576 / 4096 ≡ d) × (v % 4096 / 2048 ≡ c) × (v % 2048 / 2 ≡ b) × (v % 2 ≡ 0)
parts_j v a d c b p q r s e = (omega arith, omega arith, omega arith, omega arith, omega arith)

whole_j : (w : ℕ) → w / 2147483648 * 2147483648 + w / 2097152 % 1024 * 2097152 + w / 1048576 % 2 * 1048576 + w / 4096 % 256 * 4096 + rd_of w * 128 + opcode_of w ≡ w
whole_j w = glue_j w (w / 128) (w / 4096) (w / 1048576) (w / 2097152) (w / 2147483648) (w % 128) (w / 128 % 32) (w / 4096 % 256) (w / 1048576 % 2) (w / 2097152 % 1024)
    (omega arith) (omega arith) (omega arith) (omega arith) (omega arith)

j_word : (w v op : ℕ) → w < 2 ^ 32 → v % 2097152 ≡ bits_j w → opcode_of w ≡ op
    → (v % 2097152 / 1048576 * 2147483648 + v % 2048 / 2 * 2097152 + v % 4096 / 2048 * 1048576 + v % 1048576 / 4096 * 4096 + rd_of w * 128 + op ≡ w) × (v % 2 ≡ 0)
j_word w v op h p r =
    let e = parts_j v (w / 2147483648) (w / 4096 % 256) (w / 1048576 % 2) (w / 2097152 % 1024) (omega arith) (omega arith) (omega arith) (omega arith) p in
    (rw (e.0, e.1, e.2, e.3, ← r) (whole_j w), e.4)

pub encodes_back : (w : ℕ) → w < 2 ^ 32 → IfSome (decode_of w) (λ i. Formed i × (encoded i ≡ w))
encodes_back w h =
    let R : Instruction → Type 0 = λ i. Formed i × (encoded i ≡ w) in
    let P : Option Instruction → Type 0 = λ o. IfSome o R in
    let hd : rd_of w < 32 = omega arith in let h1 : rs1_of w < 32 = omega arith in let h2 : rs2_of w < 32 = omega arith in
    let fi = forth_i (w / 1048576) (omega arith) in let fs = forth_i (bits_s w) (omega arith) in let fb = forth_b (bits_b w) (omega arith) in let fj = forth_j (bits_j w) (omega arith) in
    cond_both (eqb (opcode_of w) 0x37) _ _ P (λ q. let e = eqb-true (opcode_of w) 0x37 q in ((omega arith, omega arith), omega arith)) λ _.
    cond_both (eqb (opcode_of w) 0x17) _ _ P (λ q. let e = eqb-true (opcode_of w) 0x17 q in ((omega arith, omega arith), omega arith)) λ _.
    cond_both (eqb (opcode_of w) 0x6f) _ _ P
    (λ q. let g = j_word w (word_of (imm_j w)) 0x6f h fj.0 (eqb-true (opcode_of w) 0x6f q) in ((hd, fj.1, g.1), g.0)) λ _.
    cond_both (eqb (opcode_of w) 0x67) _ _ P
    (λ q. cond_both (eqb (funct3_of w) 0) _ _ P
    (λ r. ((hd, h1, fi.1), (i_word w (word_of (imm_i w)) 0 0x67 fi.0 (sym (eqb-true (funct3_of w) 0 r)) (eqb-true (opcode_of w) 0x67 q)))) (λ _. tt)) λ _.
    cond_both (eqb (opcode_of w) 0x63) _ _ P
    (λ q. cases_mapped (λ t. Branch t (rs1_of w) (rs2_of w) (imm_b w)) (λ t. condition_code t ≡ funct3_of w) R (condition_of (funct3_of w)) (condition_forth (funct3_of w))
    λ t g. let k = b_word w (word_of (imm_b w)) (condition_code t) 0x63 h fb.0 g (eqb-true (opcode_of w) 0x63 q) in ((h1, h2, fb.1, k.1), k.0)) λ _.
    cond_both (eqb (opcode_of w) 0x03) _ _ P
    (λ q. cases_mapped (λ t. Load t (rd_of w) (rs1_of w) (imm_i w)) (λ t. load_code t ≡ funct3_of w) R (load_width_of (funct3_of w)) (load_forth (funct3_of w))
    λ t g. ((hd, h1, fi.1), (i_word w (word_of (imm_i w)) (load_code t) 0x03 fi.0 g (eqb-true (opcode_of w) 0x03 q)))) λ _.
    cond_both (eqb (opcode_of w) 0x23) _ _ P
    (λ q. cases_mapped (λ t. Store t (rs1_of w) (rs2_of w) (imm_s w)) (λ t. store_code t ≡ funct3_of w) R (store_width_of (funct3_of w)) (store_forth (funct3_of w))
    λ t g. ((h1, h2, fs.1), (s_word w (word_of (imm_s w)) (store_code t) 0x23 fs.0 g (eqb-true (opcode_of w) 0x23 q)))) λ _.
    cond_both (eqb (opcode_of w) 0x13) _ _ P
    (λ q. let e = eqb-true (opcode_of w) 0x13 q in
    let i : (f3 : ℕ) → funct3_of w ≡ f3 → packed_i (imm_i w) (rs1_of w) f3 (rd_of w) 0x13 ≡ w = λ f3 g. i_word w (word_of (imm_i w)) f3 0x13 fi.0 (sym g) e in
    let sh : (f7 f3 : ℕ) → funct7_of w ≡ f7 → funct3_of w ≡ f3 → packed f7 (low (pos (rs2_of w)) 32) (rs1_of w) f3 (rd_of w) 0x13 ≡ w =
    λ f7 f3 g k. word_is w f7 (low (pos (rs2_of w)) 32) (rs1_of w) f3 (rd_of w) 0x13 (sym g) (omega arith) refl (sym k) refl e in
    let small : (pos 0 ≤ℤ pos (rs2_of w)) × (pos (rs2_of w) <ℤ pos 32) = (omega (arith, ints), omega (arith, ints)) in
    let Q : Option (Operation × ℤ) → Type 0 = λ o. P (option_map (λ p. OpImm p.0 (rd_of w) (rs1_of w) p.1) o) in
    by_funct3_all Q (funct3_of w) _ _ _ _ _ _ _ _
    (λ g. ((hd, h1, fi.1), (i 0 g)))
    (λ g. cond_both (eqb (funct7_of w) 0) _ _ Q (λ r. ((hd, h1, small), (sh 0 1 (eqb-true (funct7_of w) 0 r) g))) (λ _. tt))
    (λ g. ((hd, h1, fi.1), (i 2 g)))
    (λ g. ((hd, h1, fi.1), (i 3 g)))
    (λ g. ((hd, h1, fi.1), (i 4 g)))
    (λ g. cond_both (eqb (funct7_of w) 0) _ _ Q (λ r. ((hd, h1, small), (sh 0 5 (eqb-true (funct7_of w) 0 r) g)))
    (λ _. cond_both (eqb (funct7_of w) 32) _ _ Q (λ r. ((hd, h1, small), (sh 32 5 (eqb-true (funct7_of w) 32 r) g))) (λ _. tt)))
    (λ g. ((hd, h1, fi.1), (i 6 g)))
    (λ g. ((hd, h1, fi.1), (i 7 g))) tt) λ _.
    cond_both (eqb (opcode_of w) 0x33) _ _ P
    (λ q. cases_mapped (λ o. Op o (rd_of w) (rs1_of w) (rs2_of w)) (λ o. (operation_high o ≡ funct7_of w) × (operation_code o ≡ funct3_of w)) R (operation_of (funct7_of w) (funct3_of w)) (operation_forth (funct7_of w) (funct3_of w))
    λ o g. ((hd, h1, h2), (word_is w (operation_high o) (rs2_of w) (rs1_of w) (operation_code o) (rd_of w) 0x33 g.0 refl refl g.1 refl (eqb-true (opcode_of w) 0x33 q)))) λ _.
    cond_both (eqb (opcode_of w) 0x0f) _ _ P
    (λ q. cond_both (eqb (funct3_of w) 0) _ _ P
    (λ r. let x = fm_of w * 256 + pred_of w * 16 + succ_of w in
    let o = orders_back w h in
    let g : word_of (pos x) % 4096 ≡ w / 1048576 = small_imm x (imm_small w x h o) ∙ o in
    ((four_bits (w / 268435456), four_bits (w / 16777216), four_bits (w / 1048576), hd, h1), i_word w (word_of (pos x)) 0 0x0f g (sym (eqb-true (funct3_of w) 0 r)) (eqb-true (opcode_of w) 0x0f q))) (λ _. tt)) λ _.
    cond_both (eqb w 0x73) _ _ P (λ q. (tt, (sym (eqb-true w 0x73 q)))) λ _. tt

-- a well-formed instruction has its word, and no other has one
pub of_encoded : (i : Instruction) (w : ℕ) → encode_of i ≡ Some w → Formed i × (w ≡ encoded i)
of_encoded i w e = go (formed i) refl e
  where
    go : (b : Bool) → formed i ≡ b → cond b (Some (encoded i)) None ≡ Some w → Formed i × (w ≡ encoded i)
    go true t h = (formed_true i t, cc)
    go false t h = let o : ◌≡◌ {A = ℕ} 0 1 = cc in absurd (omega arith)

pub encode_back : (w : ℕ) → w < 2 ^ 32 → IfSome (decode_of w) (λ i. encode_of i ≡ Some w)
encode_back w h = go (decode_of w) (encodes_back w h)
  where
    go : (o : Option Instruction) → IfSome o (λ i. Formed i × (encoded i ≡ w)) → IfSome o (λ i. encode_of i ≡ Some w)
    go None p = tt
    go (Some i) p = rw (true_formed i p.0, p.1)

pub inverse : (i : Instruction) → Inverse (encode_of i) i
inverse i = (
  (λ w e. let p = of_encoded i w e in rw p.1 (decodes_back i p.0)),
  (λ w h e. let p = encode_back w h in rw e at p),
)

-- what encode answers
pub answer_inverse : (i : Instruction) (r : Option ℕ) → r ≡ encode_of i → Inverse r i
answer_inverse i r e = subst (λ (o : Option ℕ). Inverse o i) (sym e) (inverse i)
