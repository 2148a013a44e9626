-- Definitions computed on messages and reports: what they read, and what they say.
use Rattle.std.specs.Prelude.{◌≡◌, true, false, ◌++◌, replicate, codes, Some, None, refl}
use Rattle.std.specs.Fmt.{digits}
use Rattle.fix_frame.specs.Grammar.{field_then, print_fields, frame_of, head, trailer, pieces, fields_of}
use Rattle.venue_model.specs.declared.commands.Command.TheVariants.{New, Cancel, Malformed, Void}
use Rattle.venue_model.specs.declared.commands.SessionRejectReason.TheVariants.{TagNotDefined, ValueIncorrect}
use Rattle.venue_model.specs.declared.commands.SessionRejectReason.TheVariants.{RequiredTagMissing, TagAppearsMoreThanOnce}
use Rattle.venue_model.specs.declared.commands.RefMsgType.TheVariants.{NewOrderSingle}
use Rattle.venue_model.specs.declared.commands.OrdType.TheVariants.{Market, Limit}
use Rattle.venue_model.specs.declared.commands.TimeInForce.TheVariants.{Day}
use Rattle.venue_model.specs.declared.orders.Side.TheVariants.{Buy, Sell}
use Rattle.venue_model.specs.declared.outputs.ExecType.TheVariants as events
use Rattle.venue_model.specs.declared.outputs.CxlRejReason.TheVariants.{UnknownOrder, BrokerOption}
use Rattle.venue_model.specs.declared.outputs.CxlRejResponseTo.TheVariants as requests
use Rattle.venue_model.specs.declared.outputs.OrdRejReason.TheVariants.{BookFull, DuplicateOrder}
use Rattle.venue_model.specs.declared.outputs.Report.TheVariants.{Exec, CancelReject, SessionReject}
use Rattle.fix_orders.specs.Formats.{time_text}
use Rattle.fix_orders.specs.Reading.{exact_fields, command_of, reads}
use Rattle.fix_orders.specs.Text.{body_fields}

-- a day order
reads-new :
    reads true (codes
    "8=FIX.4.4\u{1}9=102\u{1}35=D\u{1}49=C1\u{1}56=VENUE\u{1}34=2\u{1}52=20250102-09:30:00\u{1}11=1\u{1}55=ABC\u{1}54=1\u{1}60=20250102-09:30:00\u{1}38=100\u{1}40=2\u{1}44=50\u{1}10=098\u{1}")
    ≡ New 20250102093000 (record {
      cl_ord_id = 1;
      symbol = codes "ABC";
      side = Buy;
      ord_type = Limit 50;
      quantity = 100;
      time_in_force = Day;
    })
unfolding digits field_then head trailer frame_of pieces fields_of exact_fields command_of reads
reads-new = refl

-- a cancel of it
reads-cancel :
    reads true (codes
    "8=FIX.4.4\u{1}9=96\u{1}35=F\u{1}49=C1\u{1}56=VENUE\u{1}34=3\u{1}52=20250102-09:30:00\u{1}41=1\u{1}11=2\u{1}55=ABC\u{1}54=1\u{1}60=20250102-09:30:00\u{1}38=100\u{1}10=055\u{1}")
    ≡ Cancel 20250102093000 (record { cl_ord_id = 2; orig_cl_ord_id = 1; symbol = codes "ABC"; side = Buy })
unfolding digits field_then head trailer frame_of pieces fields_of exact_fields command_of reads
reads-cancel = refl

-- a side out of range
reads-side :
    reads true (codes
    "8=FIX.4.4\u{1}9=102\u{1}35=D\u{1}49=C1\u{1}56=VENUE\u{1}34=2\u{1}52=20250102-09:30:00\u{1}11=1\u{1}55=ABC\u{1}54=3\u{1}60=20250102-09:30:00\u{1}38=100\u{1}40=2\u{1}44=50\u{1}10=100\u{1}")
    ≡ Malformed 20250102093000 (record { reason = ValueIncorrect; tag = 54; ref_seq = 2; ref_type = NewOrderSingle })
unfolding digits field_then head trailer frame_of pieces fields_of exact_fields command_of reads
reads-side = refl

-- a tag twice comes before a missing one
reads-twice :
    reads true (codes
    "8=FIX.4.4\u{1}9=102\u{1}35=D\u{1}49=C1\u{1}56=VENUE\u{1}34=2\u{1}52=20250102-09:30:00\u{1}11=1\u{1}54=1\u{1}60=20250102-09:30:00\u{1}38=100\u{1}38=100\u{1}40=2\u{1}44=50\u{1}10=046\u{1}")
    ≡ Malformed 20250102093000 (record {
      reason = TagAppearsMoreThanOnce;
      tag = 38;
      ref_seq = 2;
      ref_type = NewOrderSingle;
    })
unfolding digits field_then head trailer frame_of pieces fields_of exact_fields command_of reads
reads-twice = refl

-- a market order, as it is read since there are any
reads-market :
    reads true (codes
    "8=FIX.4.4\u{1}9=96\u{1}35=D\u{1}49=C1\u{1}56=VENUE\u{1}34=2\u{1}52=20250102-09:30:00\u{1}11=1\u{1}55=ABC\u{1}54=1\u{1}60=20250102-09:30:00\u{1}38=100\u{1}40=1\u{1}10=050\u{1}")
    ≡ New 20250102093000 (record {
      cl_ord_id = 1;
      symbol = codes "ABC";
      side = Buy;
      ord_type = Market;
      quantity = 100;
      time_in_force = Day;
    })
unfolding digits field_then head trailer frame_of pieces fields_of exact_fields command_of reads
reads-market = refl

-- and as it was read before: its price is missing
reads-market-before :
    reads false (codes
    "8=FIX.4.4\u{1}9=96\u{1}35=D\u{1}49=C1\u{1}56=VENUE\u{1}34=2\u{1}52=20250102-09:30:00\u{1}11=1\u{1}55=ABC\u{1}54=1\u{1}60=20250102-09:30:00\u{1}38=100\u{1}40=1\u{1}10=050\u{1}")
    ≡ Malformed 20250102093000 (record { reason = RequiredTagMissing; tag = 44; ref_seq = 2; ref_type = NewOrderSingle })
unfolding digits field_then head trailer frame_of pieces fields_of exact_fields command_of reads
reads-market-before = refl

-- a market order with a price
reads-market-priced :
    reads true (codes
    "8=FIX.4.4\u{1}9=102\u{1}35=D\u{1}49=C1\u{1}56=VENUE\u{1}34=2\u{1}52=20250102-09:30:00\u{1}11=1\u{1}55=ABC\u{1}54=1\u{1}60=20250102-09:30:00\u{1}38=100\u{1}40=1\u{1}44=50\u{1}10=097\u{1}")
    ≡ Malformed 20250102093000 (record { reason = TagNotDefined; tag = 44; ref_seq = 2; ref_type = NewOrderSingle })
unfolding digits field_then head trailer frame_of pieces fields_of exact_fields command_of reads
reads-market-priced = refl

reads-market-priced-before :
    reads false (codes
    "8=FIX.4.4\u{1}9=102\u{1}35=D\u{1}49=C1\u{1}56=VENUE\u{1}34=2\u{1}52=20250102-09:30:00\u{1}11=1\u{1}55=ABC\u{1}54=1\u{1}60=20250102-09:30:00\u{1}38=100\u{1}40=1\u{1}44=50\u{1}10=097\u{1}")
    ≡ Malformed 20250102093000 (record { reason = ValueIncorrect; tag = 40; ref_seq = 2; ref_type = NewOrderSingle })
unfolding digits field_then head trailer frame_of pieces fields_of exact_fields command_of reads
reads-market-priced-before = refl

-- a message of 320 bytes with a tag that no order has
reads-long :
    reads true (codes
    "8=FIX.4.4\u{1}9=297\u{1}35=D\u{1}49=C1\u{1}56=VENUE\u{1}34=2\u{1}52=20250102-09:30:00\u{1}11=1\u{1}55=ABC\u{1}54=1\u{1}60=20250102-09:30:00\u{1}38=100\u{1}40=2\u{1}44=50\u{1}58=" ++ (replicate 191 120 ++ codes "\u{1}10=164\u{1}"))
    ≡ Malformed 20250102093000 (record { reason = TagNotDefined; tag = 58; ref_seq = 2; ref_type = NewOrderSingle })
unfolding digits field_then head trailer frame_of pieces fields_of exact_fields command_of reads
reads-long = refl

-- a Logon asks nothing of the book
reads-logon :
    reads true (codes
    "8=FIX.4.4\u{1}9=63\u{1}35=A\u{1}49=C1\u{1}56=VENUE\u{1}34=1\u{1}52=20250102-09:30:00\u{1}98=0\u{1}108=0\u{1}141=Y\u{1}10=026\u{1}") ≡ Void
unfolding digits field_then head trailer frame_of pieces fields_of exact_fields command_of reads
reads-logon = refl

-- accepted
says-new : print_fields (body_fields
    (Exec (record {
      exec_type = events.New;
      order = record {
        id = 1;
        client = 1;
        cl_ord_id = 1;
        symbol = codes "ABC";
        side = Buy;
        price = 50;
        is_market = false;
        total = 100;
        cum = 0;
        notional = 0;
        stamp = 1;
      };
    })) 1)
    ≡ codes "37=1\u{1}17=1\u{1}150=0\u{1}39=0\u{1}11=1\u{1}55=ABC\u{1}54=1\u{1}38=100\u{1}44=50\u{1}151=100\u{1}14=0\u{1}6=0\u{1}"
unfolding digits field_then
says-new = refl

-- filled whole
says-whole : print_fields (body_fields
    (Exec (record {
      exec_type = events.Trade 10 50;
      order =
          record {
            id = 1;
            client = 1;
            cl_ord_id = 1;
            symbol = codes "ABC";
            side = Buy;
            price = 50;
            is_market = false;
            total = 10;
            cum = 10;
            notional = 500;
            stamp = 1;
          };
    })) 4)
    ≡ codes "37=1\u{1}17=4\u{1}150=F\u{1}39=2\u{1}11=1\u{1}55=ABC\u{1}54=1\u{1}38=10\u{1}44=50\u{1}32=10\u{1}31=50\u{1}151=0\u{1}14=10\u{1}6=50\u{1}"
unfolding digits field_then
says-whole = refl

-- filled in part
says-part : print_fields (body_fields
    (Exec (record {
      exec_type = events.Trade 10 50;
      order =
          record {
            id = 3;
            client = 1;
            cl_ord_id = 1;
            symbol = codes "ABC";
            side = Sell;
            price = 50;
            is_market = false;
            total = 15;
            cum = 10;
            notional = 500;
            stamp = 3;
          };
    })) 5)
    ≡ codes "37=3\u{1}17=5\u{1}150=F\u{1}39=1\u{1}11=1\u{1}55=ABC\u{1}54=2\u{1}38=15\u{1}44=50\u{1}32=10\u{1}31=50\u{1}151=5\u{1}14=10\u{1}6=50\u{1}"
unfolding digits field_then
says-part = refl

-- an average that is rounded down
says-average : print_fields (body_fields
    (Exec (record {
      exec_type = events.Trade 15 51;
      order =
          record {
            id = 3;
            client = 1;
            cl_ord_id = 1;
            symbol = codes "ABC";
            side = Buy;
            price = 51;
            is_market = false;
            total = 100;
            cum = 40;
            notional = 2015;
            stamp = 3;
          };
    })) 7)
    ≡ codes "37=3\u{1}17=7\u{1}150=F\u{1}39=1\u{1}11=1\u{1}55=ABC\u{1}54=1\u{1}38=100\u{1}44=51\u{1}32=15\u{1}31=51\u{1}151=60\u{1}14=40\u{1}6=50\u{1}"
unfolding digits field_then
says-average = refl

-- replaced
says-replaced : print_fields (body_fields
    (Exec (record {
      exec_type = events.Replaced 1;
      order =
          record {
            id = 1;
            client = 1;
            cl_ord_id = 2;
            symbol = codes "ABC";
            side = Buy;
            price = 50;
            is_market = false;
            total = 8;
            cum = 0;
            notional = 0;
            stamp = 1;
          };
    })) 3)
    ≡ codes "37=1\u{1}17=3\u{1}150=5\u{1}39=0\u{1}11=2\u{1}41=1\u{1}55=ABC\u{1}54=1\u{1}38=8\u{1}44=50\u{1}151=8\u{1}14=0\u{1}6=0\u{1}"
unfolding digits field_then
says-replaced = refl

-- canceled by request
says-canceled : print_fields (body_fields
    (Exec (record {
      exec_type = events.Canceled (Some 1);
      order = record {
        id = 1;
        client = 1;
        cl_ord_id = 2;
        symbol = codes "ABC";
        side = Buy;
        price = 50;
        is_market = false;
        total = 100;
        cum = 0;
        notional = 0;
        stamp = 1;
      };
    })) 2)
    ≡ codes "37=1\u{1}17=2\u{1}150=4\u{1}39=4\u{1}11=2\u{1}41=1\u{1}55=ABC\u{1}54=1\u{1}38=100\u{1}44=50\u{1}151=0\u{1}14=0\u{1}6=0\u{1}"
unfolding digits field_then
says-canceled = refl

-- canceled by its own terms
says-own-terms : print_fields (body_fields
    (Exec (record {
      exec_type = events.Canceled None;
      order =
          record {
            id = 2;
            client = 1;
            cl_ord_id = 1;
            symbol = codes "ABC";
            side = Buy;
            price = 50;
            is_market = false;
            total = 100;
            cum = 0;
            notional = 0;
            stamp = 2;
          };
    })) 3)
    ≡ codes "37=2\u{1}17=3\u{1}150=4\u{1}39=4\u{1}11=1\u{1}55=ABC\u{1}54=1\u{1}38=100\u{1}44=50\u{1}151=0\u{1}14=0\u{1}6=0\u{1}"
unfolding digits field_then
says-own-terms = refl

-- a name that is used
says-duplicate : print_fields (body_fields
    (Exec (record {
      exec_type = events.Rejected DuplicateOrder;
      order = record {
        id = 2;
        client = 1;
        cl_ord_id = 5;
        symbol = codes "ABC";
        side = Buy;
        price = 50;
        is_market = false;
        total = 10;
        cum = 0;
        notional = 0;
        stamp = 2;
      };
    })) 2)
    ≡ codes "37=2\u{1}17=2\u{1}150=8\u{1}39=8\u{1}11=5\u{1}55=ABC\u{1}54=1\u{1}38=10\u{1}44=50\u{1}151=0\u{1}14=0\u{1}6=0\u{1}103=6\u{1}"
unfolding digits field_then
says-duplicate = refl

-- the book is full
says-full : print_fields (body_fields
    (Exec (record {
      exec_type = events.Rejected BookFull;
      order = record {
        id = 4097;
        client = 1;
        cl_ord_id = 4097;
        symbol = codes "ABC";
        side = Buy;
        price = 1;
        is_market = false;
        total = 1;
        cum = 0;
        notional = 0;
        stamp = 4097;
      };
    })) 4097)
    ≡ codes "37=4097\u{1}17=4097\u{1}150=8\u{1}39=8\u{1}11=4097\u{1}55=ABC\u{1}54=1\u{1}38=1\u{1}44=1\u{1}151=0\u{1}14=0\u{1}6=0\u{1}103=0\u{1}58=book full\u{1}"
unfolding digits field_then
says-full = refl

-- a replace that does not fit its order
says-unfit : print_fields (body_fields
    (CancelReject (record {
      order =
          Some (record {
            id = 1;
            client = 1;
            cl_ord_id = 1;
            symbol = codes "ABC";
            side = Buy;
            price = 50;
            is_market = false;
            total = 10;
            cum = 4;
            notional = 200;
            stamp = 1;
          });
      cl_ord_id = 2;
      orig_cl_ord_id = 1;
      response_to = requests.CancelReplace;
      reason = BrokerOption;
    })) 5)
    ≡ codes "37=1\u{1}11=2\u{1}41=1\u{1}39=1\u{1}434=2\u{1}102=2\u{1}"
unfolding digits field_then
says-unfit = refl

-- a cancel of no order
says-unknown : print_fields (body_fields
    (CancelReject (record {
      order = None;
      cl_ord_id = 2;
      orig_cl_ord_id = 1;
      response_to = requests.Cancel;
      reason = UnknownOrder;
    })) 6)
    ≡ codes "37=NONE\u{1}11=2\u{1}41=1\u{1}39=8\u{1}434=1\u{1}102=1\u{1}"
unfolding digits field_then
says-unknown = refl

-- a message with a fault
says-reject : print_fields (body_fields
    (SessionReject (record { reason = ValueIncorrect; tag = 54; ref_seq = 2; ref_type = NewOrderSingle })) 1)
    ≡ codes "45=2\u{1}371=54\u{1}372=D\u{1}373=5\u{1}"
unfolding digits field_then
says-reject = refl

-- a time and its number
says-time : time_text 20250102093000 ≡ codes "20250102-09:30:00"
unfolding time_text
says-time = refl
