-- Where each word of the table lies. Control words come first, eight words apart, so that no two writers share a cache line;
-- then 64 words for each row of the input ring, then 128 for each row of the output ring.
use Rattle.std.specs.Prelude.{ℕ, ◌+◌, ◌*◌, ◌%◌}
use Rattle.ring_words.specs.declared.view.Role.{Role}
use Rattle.ring_words.specs.declared.view.Role.TheVariants.{Process, Unmarshal, Journal, Marshal, Gateway}

-- the processor's word: all sequences below it are processed. Two seats that join load this word
abbrev pub processed : ℕ
processed = 0

-- the number of sequences claimed
abbrev pub claim : ℕ
claim = 8

abbrev pub unmarshalled : ℕ
unmarshalled = 16

abbrev pub journalled : ℕ
journalled = 24

abbrev pub marshalled : ℕ
marshalled = 32

-- how many outputs the gateway took or passed over
abbrev pub taken : ℕ → ℕ
taken k = 32 + 8 * k

abbrev pub published : ℕ
published = 104

-- the control words lie below this place
abbrev pub first_row : ℕ
first_row = 128

-- the word i of the row of input sequence s, in a ring of n rows: 0 is the availability word, the raw words follow
abbrev pub in_row : ℕ → ℕ → ℕ → ℕ
in_row n s i = 128 + 64 * (s % n) + i

-- the word i of the row of output p, in a ring of m rows behind n input rows
abbrev pub out_row : ℕ → ℕ → ℕ → ℕ → ℕ
out_row n m p i = 128 + 64 * n + 128 * (p % m) + i

-- how many words the table has
abbrev pub table_words : ℕ → ℕ → ℕ
table_words n m = 128 + 64 * n + 128 * m

-- the control word that this role alone stores
abbrev pub word_of_role : Role → ℕ
word_of_role Process = processed
word_of_role Unmarshal = unmarshalled
word_of_role Journal = journalled
word_of_role Marshal = marshalled
word_of_role (Gateway k) = taken k

-- a gateway's number; a stage has 0
abbrev pub number_of : Role → ℕ
number_of Process = 0
number_of Unmarshal = 0
number_of Journal = 0
number_of Marshal = 0
number_of (Gateway k) = k
